-- The third sweep: rows that wait for no passage are taken, their ages are final then.
--   Take             the sweep on its way, with the rows that may be ready
--   Taking           the same while the nexts of a row are looked at
--   IsTaken          its end
--   IsSettled        the end of all sweeps
use Rattle.std.specs.Prelude.{◌≡◌, ℕ, zero, suc, ◌+◌, ◌-◌, ◌<◌, ◌≤◌, ◌==◌, Bool, true, false, ◌&&◌, if◌then◌else◌, MatchBool, List, [], ◌∷◌, ◌++◌, IsSome, length, slice_index, slice_set, sum_by, take}
use Rattle.pin_matrix.specs.Followed.{followed}
use Rattle.pin_matrix.specs.declared.assume.Follow.{Follow}
use Rattle.pin_matrix.specs.declared.setup.Setup.{Setup}
use Rattle.pin_matrix.specs.declared.span.Span.{Span}
use Rattle.span_step.specs.declared.ages.Ages.{Ages}
use Rattle.span_step.specs.declared.ages.Ages.TheVariants.{Empty}
use Rattle.span_step.specs.declared.stepped.Next.{Next}
use Rattle.span_step.specs.Contexts.{is_open}
use Rattle.span_bounds.specs.declared.entry.Entry.{Entry}
use Rattle.span_bounds.specs.declared.entry.Entry.TheVariants.{Absent, Present}
use Rattle.span_bounds.specs.Numbers.{contexts_of}
use Rattle.span_bounds.specs.Tables.{LiesAt}
use Rattle.span_bounds.specs.Edges.{at, nexts_at, spot, EachNext, AllLie, IsClosedAt, Among}
use Rattle.span_bounds.specs.Reach.{IsReach}
use Rattle.span_bounds.specs.Sums.{total, passages, waits, open_at, join_into}
use Rattle.span_bounds.specs.Count.{IsUnder, LieBut}

-- what stays the same all the time: the table lies under each closed one, has each row, and holds what waits for no other
pub record IsFresh (u : Setup) (sp : Span) (g x : List Entry) : Type 0 where
  pub under : IsUnder u sp g x
  pub rows : (i : ℕ) (a : Ages) → i < contexts_of sp → at g i ≡ Present a → LiesAt Empty (at x i)
  pub fresh : (i : ℕ) (a : Ages) → i < contexts_of sp → at g i ≡ Present a → LieBut (followed sp) (is_open a) (at x) (nexts_at u sp i a)

-- the rows that are left to take are open in the first sweep's grid
pub record AreLeft (sp : Span) (g l : List Entry) : Type 0 where
  pub size : length l ≡ contexts_of sp
  pub left : (i : ℕ) → i < contexts_of sp → open_at (at l i) ≡ true → at l i ≡ at g i

-- the third sweep on its way: the numbers are those of the passages from rows that are left, a row that is left and waits for
-- none is in the list, and what a row leads to that isn't left lies in the table
pub record Take (u : Setup) (sp : Span) (g l x : List Entry) (m ready : List ℕ) : Type 0 where
  pub keeps : IsFresh u sp g x
  pub left : AreLeft sp g l
  pub numbers : length m ≡ contexts_of sp
  pub near : (i : ℕ) → Among i ready → i < contexts_of sp
  pub count : (v : ℕ) → v < contexts_of sp → slice_index m v ≡ total (contexts_of sp) (waits u sp (at l) v)
  pub queued : (i : ℕ) → i < contexts_of sp → open_at (at l i) ≡ true → slice_index m i ≡ 0 → Among i ready
  pub settled : (i : ℕ) → i < contexts_of sp → open_at (at l i) ≡ false → slice_index m i ≡ 0
  pub done : (i : ℕ) (a : Ages) → i < contexts_of sp → open_at (at l i) ≡ false → at x i ≡ Present a → AllLie (followed sp) (at x) (nexts_at u sp i a)

-- the same while row i with these ages is taken, of whose nexts these are done and those are left
pub record Taking (u : Setup) (sp : Span) (g l x : List Entry) (m ready : List ℕ) (i : ℕ) (a : Ages) (done rest : List Next) : Type 0 where
  pub keeps : IsFresh u sp g x
  pub left : AreLeft sp g l
  pub numbers : length m ≡ contexts_of sp
  pub near : (j : ℕ) → Among j ready → j < contexts_of sp
  pub count : (v : ℕ) → v < contexts_of sp → slice_index m v ≡ total (contexts_of sp) (waits u sp (at l) v) + passages (followed sp) v rest
  pub queued : (j : ℕ) → j < contexts_of sp → open_at (at l j) ≡ true → slice_index m j ≡ 0 → Among j ready
  pub settled : (j : ℕ) → j < contexts_of sp → open_at (at l j) ≡ false → slice_index m j ≡ 0
  pub finished : (j : ℕ) (b : Ages) → j < contexts_of sp → open_at (at l j) ≡ false → (j ≡ i → ⊥) → at x j ≡ Present b → AllLie (followed sp) (at x) (nexts_at u sp j b)
  pub taken : open_at (at l i) ≡ false
  pub own : at x i ≡ Present a
  pub held : AllLie (followed sp) (at x) done
  pub sure : LieBut (followed sp) true (at x) rest
  pub least : (f : ℕ → Entry) → IsClosedAt u sp f → AllLie (followed sp) f rest

-- each of these nexts to which a course passes is left
abbrev pub PassToLeft : Follow → List Entry → List Next → Type 0
PassToLeft d l ns = EachNext (λ n. n.passes ≡ true → open_at (at l (spot d n)) ≡ true) ns

-- its end: a row that is left is passed to by a row that is left, whatever its ages, and passes only to rows that are left
pub record IsTaken (u : Setup) (sp : Span) (l x : List Entry) : Type 0 where
  pub reach : List Entry
  pub reached : IsReach u sp reach
  pub keeps : IsFresh u sp reach x
  pub left : AreLeft sp reach l
  pub stays : (w : ℕ) (b : Ages) → w < contexts_of sp → open_at (at l w) ≡ true → PassToLeft (followed sp) l (nexts_at u sp w b)
  pub blocked : (i : ℕ) → i < contexts_of sp → open_at (at l i) ≡ true → (w : ℕ) × ((w < contexts_of sp) × ((open_at (at l w) ≡ true) × ((b : Ages) → 1 ≤ passages (followed sp) i (nexts_at u sp w b))))
  pub done : (i : ℕ) (a : Ages) → i < contexts_of sp → open_at (at l i) ≡ false → at x i ≡ Present a → AllLie (followed sp) (at x) (nexts_at u sp i a)

-- The end of all sweeps: rows are left only where the span has a greatest bound.
pub record IsSettled (u : Setup) (sp : Span) (l x : List Entry) : Type 0 where
  pub taken : IsTaken u sp l x
  pub bounded : (i : ℕ) → i < contexts_of sp → open_at (at l i) ≡ true → IsSome sp.max

-- the third sweep on its way after some first sweep
pub record IsTaking (u : Setup) (sp : Span) (l x : List Entry) (m ready : List ℕ) : Type 0 where
  pub reach : List Entry
  pub reached : IsReach u sp reach
  pub take : Take u sp reach l x m ready

-- the same while a row is taken
pub record TakesRow (u : Setup) (sp : Span) (l x : List Entry) (m ready : List ℕ) (i : ℕ) (a : Ages) (done rest : List Next) : Type 0 where
  pub reach : List Entry
  pub reached : IsReach u sp reach
  pub taking : Taking u sp reach l x m ready i a done rest

-- 1 where something is waited for
abbrev pub unmet : ℕ → ℕ
unmet zero = 0
unmet (suc n) = 1

-- the list holds each row that is left and waits for none, and no more numbers than those that wait for none
pub record AreReady (l : List Entry) (m ready : List ℕ) (below : ℕ) : Type 0 where
  pub few : sum_by unmet (take below m) + length ready ≤ below
  pub near : (i : ℕ) → Among i ready → i < length l
  pub queued : (i : ℕ) → i < below → open_at (at l i) ≡ true → slice_index m i ≡ 0 → Among i ready

-- what is left of a next: where it passes, its ages join those of its row, which waits for one less, and is in the list once it
-- waits for none
abbrev pub Passed : Follow → Next → (x new_x : List Entry) (m new_m r new_r : List ℕ) → Type 0
Passed d n x new_x m new_m r new_r = MatchBool n.passes
    ((new_x ≡ slice_set x (spot d n) (Present (join_into n.ages (at x (spot d n)))))
    × ((new_m ≡ slice_set m (spot d n) (slice_index m (spot d n) - 1))
    × (new_r ≡ (if slice_index m (spot d n) == 1 then r ++ spot d n ∷ [] else r))))
    ((new_x ≡ x) × ((new_m ≡ m) × (new_r ≡ r)))

-- how many rows wait for something, and how many may be ready
abbrev pub work_left : List ℕ → List ℕ → ℕ
work_left m ready = sum_by unmet m + length ready

-- a row is left and waits for none
abbrev pub is_ready : List Entry → List ℕ → ℕ → Bool
is_ready l m i = open_at (at l i) && slice_index m i == 0

-- the ages of a row, none where there is no row
abbrev pub ages_or_none : Entry → Ages
ages_or_none Absent = Empty
ages_or_none (Present a) = a
