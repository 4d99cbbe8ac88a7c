-- The fourth sweep, of a span without a greatest bound: the ages of the rows that the third left, which go round in loops. Each
-- has the age at which ages stop in every closed table, so only their least ages are looked for.
--   lies             whether ages lie at an entry
--   is_single        an entry has one age alone
--   slack            how often an entry may still be widened
--   Eased            what is left of a next
--   Settle           the sweep on its way, with the rows that wait
--   SettleRow        the same while the nexts of a row are looked at
--   Begun            before it, with so many rows looked at
use Rattle.std.specs.Prelude.{◌≡◌, ℕ, ◌+◌, ◌*◌, ◌-◌, ◌<◌, ◌≤◌, ◌⊎◌, ◌==◌, nat_le, nat_lt, Bool, true, false, not, ◌&&◌, ◌||◌, MatchBool, List, length, slice_set, sum_by, take}
use Rattle.pin_matrix.specs.Followed.{followed}
use Rattle.pin_matrix.specs.declared.assume.Follow.{Follow}
use Rattle.pin_matrix.specs.declared.setup.Setup.{Setup}
use Rattle.pin_matrix.specs.declared.span.Span.{Span}
use Rattle.span_step.specs.declared.ages.Ages.{Ages}
use Rattle.span_step.specs.declared.ages.Ages.TheVariants.{Empty, Between}
use Rattle.span_step.specs.declared.stepped.Next.{Next}
use Rattle.span_bounds.specs.declared.entry.Entry.{Entry}
use Rattle.span_bounds.specs.declared.entry.Entry.TheVariants.{Absent, Present}
use Rattle.span_bounds.specs.Numbers.{contexts_of}
use Rattle.span_bounds.specs.Tables.{LiesAt}
use Rattle.span_bounds.specs.Edges.{at, nexts_at, spot, AllLie, IsClosedAt, Among}
use Rattle.span_bounds.specs.Reach.{IsHeldBy, IsReach}
use Rattle.span_bounds.specs.Sums.{open_at, one_if, join_into}
use Rattle.span_bounds.specs.Queues.{IsMore}
use Rattle.span_bounds.specs.Take.{IsFresh, IsTaken}

-- each age of the first is one of the second, as a test
abbrev pub is_inside : Ages → Ages → Bool
is_inside Empty b = true
is_inside (Between lo hi) Empty = false
is_inside (Between lo hi) (Between low high) = nat_le low lo && nat_le hi high

-- ages lie at an entry, as a test
abbrev pub lies : Ages → Entry → Bool
lies a Absent = false
lies a (Present b) = is_inside a b

-- 1 where a row waits, by its mark
abbrev pub one_waiting : Entry → ℕ
one_waiting e = one_if (open_at e)

-- one age alone: in this sweep, of a row that is left, that at which ages stop
abbrev pub is_single : Entry → Bool
is_single Absent = false
is_single (Present Empty) = false
is_single (Present (Between lo hi)) = lo == hi

-- 1 where there are several ages, from a lesser to a greater
abbrev pub one_wide : Entry → ℕ
one_wide Absent = 0
one_wide (Present Empty) = 0
one_wide (Present (Between lo hi)) = one_if (nat_lt lo hi)

-- how often an entry may still be widened by ages up to this
abbrev pub slack : ℕ → Entry → ℕ
slack c Absent = 2 * c + 2
slack c (Present Empty) = 2 * c + 1
slack c (Present (Between lo hi)) = lo + (c - hi)

-- the same of a whole table, and the rows that wait
abbrev pub ease_left : ℕ → List Entry → List ℕ → ℕ
ease_left c x waiting = sum_by (slack c) x + length waiting

-- What is left of a next: where its ages don't lie in the table they join those of its row, which waits then. A row that waits
-- already isn't added again, but where it had one age alone: then it wasn't among the numbers that come first.
abbrev pub Eased : Follow → Next → (x new_x l new_l : List Entry) (w new_w : List ℕ) → Type 0
Eased d n x new_x l new_l w new_w = MatchBool (lies n.ages (at x (spot d n)))
    ((new_x ≡ x) × ((new_l ≡ l) × (new_w ≡ w)))
    ((new_x ≡ slice_set x (spot d n) (Present (join_into n.ages (at x (spot d n)))))
    × MatchBool (is_single (at x (spot d n)) || not (open_at (at l (spot d n))))
    ((new_l ≡ slice_set l (spot d n) (Present (Between 0 0))) × IsMore (spot d n) w new_w)
    ((new_l ≡ l) × (new_w ≡ w)))

-- What is left of a row before the sweep: one that the third sweep left has the age at which ages stop. It comes first if that
-- isn't its only age.
abbrev pub BegunAt : (c i : ℕ) → (l x new_x : List Entry) (w new_w : List ℕ) → Type 0
BegunAt c i l x new_x w new_w = MatchBool (open_at (at l i))
    ((new_x ≡ slice_set x i (Present (join_into (Between c c) (at x i))))
    × MatchBool (is_single (at new_x i)) (new_w ≡ w) (IsMore i w new_w))
    ((new_x ≡ x) × (new_w ≡ w))

-- The sweep on its way: what a row leads to lies in the table, unless the row waits. Those that wait come first, or are among
-- the rest.
pub record Settle (u : Setup) (sp : Span) (g l x : List Entry) (waiting : List ℕ) (rest : ℕ) : Type 0 where
  pub keeps : IsFresh u sp g x
  pub size : length l ≡ contexts_of sp
  pub near : (i : ℕ) → Among i waiting → i < contexts_of sp
  pub queued : (i : ℕ) → i < contexts_of sp → i < rest → open_at (at l i) ≡ true → Among i waiting
  pub done : (i : ℕ) (a : Ages) → i < contexts_of sp → open_at (at l i) ≡ false → at x i ≡ Present a → AllLie (followed sp) (at x) (nexts_at u sp i a)
  pub there : (j : ℕ) → j < contexts_of sp → open_at (at l j) ≡ true → LiesAt Empty (at x j)
  pub few : length waiting ≤ sum_by one_waiting l + sum_by one_wide x + 1

-- the same while row i, which had these ages, is looked at, of whose nexts these are done
pub record SettleRow (u : Setup) (sp : Span) (g l x : List Entry) (waiting : List ℕ) (rest i : ℕ) (a : Ages) (done : List Next) : Type 0 where
  pub keeps : IsFresh u sp g x
  pub size : length l ≡ contexts_of sp
  pub near : (j : ℕ) → Among j waiting → j < contexts_of sp
  pub queued : (j : ℕ) → j < contexts_of sp → j < rest → open_at (at l j) ≡ true → Among j waiting
  pub finished : (j : ℕ) (b : Ages) → j < contexts_of sp → open_at (at l j) ≡ false → (j ≡ i → ⊥) → at x j ≡ Present b → AllLie (followed sp) (at x) (nexts_at u sp j b)
  pub own : (at x i ≡ Present a) ⊎ (open_at (at l i) ≡ true)
  pub held : AllLie (followed sp) (at x) done
  pub needed : (f : ℕ → Entry) → IsClosedAt u sp f → LiesAt a (f i)
  pub reached : IsHeldBy a (at g i)
  pub there : (j : ℕ) → j < contexts_of sp → open_at (at l j) ≡ true → LiesAt Empty (at x j)
  pub few : length waiting ≤ sum_by one_waiting l + sum_by one_wide x + 1

-- before it: the rows below n that are left have the age at which ages stop
pub record Begun (u : Setup) (sp : Span) (g l x : List Entry) (waiting : List ℕ) (n : ℕ) : Type 0 where
  pub keeps : IsFresh u sp g x
  pub near : (i : ℕ) → Among i waiting → i < contexts_of sp
  pub done : (i : ℕ) (a : Ages) → i < contexts_of sp → open_at (at l i) ≡ false → at x i ≡ Present a → AllLie (followed sp) (at x) (nexts_at u sp i a)
  pub there : (j : ℕ) → j < contexts_of sp → open_at (at l j) ≡ true → LiesAt Empty (at x j)
  pub few : length waiting ≤ sum_by one_waiting (take n l)

-- the sweep on its way after some first sweep
pub record IsSettling (u : Setup) (sp : Span) (l x : List Entry) (waiting : List ℕ) (rest : ℕ) : Type 0 where
  pub reach : List Entry
  pub reached : IsReach u sp reach
  pub settle : Settle u sp reach l x waiting rest

-- the same while a row is looked at
pub record SettlesRow (u : Setup) (sp : Span) (l x : List Entry) (waiting : List ℕ) (rest i : ℕ) (a : Ages) (done : List Next) : Type 0 where
  pub reach : List Entry
  pub reached : IsReach u sp reach
  pub row : SettleRow u sp reach l x waiting rest i a done

-- before the sweep, after some third sweep
pub record IsBegun (u : Setup) (sp : Span) (l x : List Entry) (waiting : List ℕ) (n : ℕ) : Type 0 where
  pub table : List Entry
  pub taken : IsTaken u sp l table
  pub begun : Begun u sp taken.reach l x waiting n
