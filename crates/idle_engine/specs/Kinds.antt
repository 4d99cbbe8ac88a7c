-- Runs with the system's ports, clock by clock, of any kind: of one block with a stimulus, or of two with one each.
--   Course   the states of a run, and what its first clocks show
--   RunKind  what a run of the kind does in a clock, and what it shows
--   IsKind   what holds of each kind
--   IsUntil  the first clock that passes a test, or an end where that comes first
--   IsCalm   a run shows the same for some clocks in which nothing moves, and its machines ask for the same
--   IsCourse   a run from a state on goes as its kind says
use Rattle.std.specs.Prelude.{◌≡◌, ℕ, suc, ◌+◌, ◌<◌, ◌≤◌, Bool, true, false, List, [], ◌∷◌, ◌++◌}

-- The state of a run at the start of each clock, and what the first clocks show.
pub record Course (H V : Type 0) : Type 0 where
  pub at : ℕ → H
  pub samples : ℕ → List V

-- H are the states of a run with what is left of its transfers, L the lines that it runs with, and V what it shows.
--   in_clock    the state is at the start of the clock
--   acts        the system acts in a clock, while the machines ask for what they ask in the state
--   moves_on    the state moves on in its clock, if the system does nothing in it
--   stirs       its clock stirs
--   next        one clock on
--   quiet_next  one clock on, if the system does nothing; quiet_from some clocks on
--   shown       what the clock before showed
pub record RunKind (H L V : Type 0) : Type 1 where
  pub in_clock : H → ℕ → Type 0
  pub acts : L → H → ℕ → Bool
  pub moves_on : H → Bool
  pub stirs : L → H → Bool
  pub next : L → H → H
  pub quiet_next : H → H
  pub quiet_from : H → ℕ → H
  pub shown : H → V

-- The clocks are counted. In a clock in which the system doesn't act it does nothing, and the clock stirs where the state moves on
-- by itself; a clock in which it acts stirs.
pub record IsKind {H L V : Type 0} (k : RunKind H L V) : Type 0 where
  pub later : (l : L) (h : H) (n : ℕ) → k.in_clock h n → k.in_clock (k.next l h) (n + 1)
  pub quiet : (l : L) (h : H) (n : ℕ) → k.in_clock h n → k.acts l h n ≡ false → k.next l h ≡ k.quiet_next h
  pub acting : (l : L) (h : H) (n : ℕ) → k.in_clock h n → k.acts l h n ≡ true → k.stirs l h ≡ true
  pub moving : (l : L) (h : H) (n : ℕ) → k.in_clock h n → k.acts l h n ≡ false → k.stirs l h ≡ k.moves_on h
  pub none : (h : H) → k.quiet_from h 0 ≡ h
  pub more : (h : H) (n : ℕ) → k.quiet_from h (suc n) ≡ k.quiet_next (k.quiet_from h n)

-- No number from this one on and before that one passes the test; that one does, or is the end.
pub record IsUntil (test : ℕ → Bool) (end from until : ℕ) : Type 0 where
  pub ahead : from ≤ until
  pub within : until ≤ end
  pub rests : (c : ℕ) → from ≤ c → c < until → test c ≡ false
  pub passes : until < end → test until ≡ true

-- If the system does nothing, for so many clocks nothing moves, and the state shows and asks for the same.
pub record IsCalm {H L V : Type 0} (k : RunKind H L V) (h : H) (clocks : ℕ) : Type 0 where
  pub asks : (j : ℕ) → j ≤ clocks → (l : L) (n : ℕ) → k.acts l (k.quiet_from h j) n ≡ k.acts l h n
  pub shows : (j : ℕ) → j ≤ clocks → k.shown (k.quiet_from h j) ≡ k.shown h
  pub rests : (j : ℕ) → j < clocks → k.moves_on (k.quiet_from h j) ≡ false

-- the elements of the first clocks, one a clock
pub record AreFirsts {T : Type 0} (at : ℕ → T) (all : ℕ → List T) : Type 0 where
  pub none : all 0 ≡ []
  pub more : (n : ℕ) → all (suc n) ≡ all n ++ at n ∷ []

-- what a clock of a run shows: the state after it does
abbrev pub shown_at : {H L V : Type 0} → RunKind H L V → Course H V → ℕ → V
shown_at k c n = k.shown (c.at (suc n))

-- The run from this state on, which is in clock 0, goes with these lines as the kind says.
pub record IsCourse {H L V : Type 0} (k : RunKind H L V) (lines : L) (begin : H) (c : Course H V) : Type 0 where
  pub fresh : k.in_clock begin 0
  pub begins : c.at 0 ≡ begin
  pub goes : (n : ℕ) → c.at (suc n) ≡ k.next lines (c.at n)
  pub samples : AreFirsts (shown_at k c) c.samples
