-- The second sweep: the ages that come without waiting for any others, and how many passages each row waits for.
--   EntryIn          an entry lies in another
--   LieBut           each next lies at an entry, but for the passages of an open row
--   Count            the sweep on its way, with so many rows done
--   Counting         the same while the nexts of a row are looked at
use Rattle.std.specs.Prelude.{◌≡◌, ℕ, ◌+◌, ◌*◌, ◌<◌, ◌≤◌, Bool, false, ◌&&◌, if◌then◌else◌, MatchBool, List, length, slice_index, slice_set}
use Rattle.pin_matrix.specs.Followed.{followed}
use Rattle.pin_matrix.specs.declared.assume.Follow.{Follow}
use Rattle.pin_matrix.specs.declared.setup.Setup.{Setup}
use Rattle.pin_matrix.specs.declared.span.Span.{Span}
use Rattle.span_step.specs.declared.ages.Ages.{Ages}
use Rattle.span_step.specs.declared.ages.Ages.TheVariants.{Empty}
use Rattle.span_step.specs.declared.stepped.Next.{Next}
use Rattle.span_step.specs.Contexts.{is_open}
use Rattle.span_bounds.specs.declared.entry.Entry.{Entry}
use Rattle.span_bounds.specs.declared.entry.Entry.TheVariants.{Absent, Present}
use Rattle.span_bounds.specs.Numbers.{contexts_of}
use Rattle.span_bounds.specs.Tables.{LiesAt}
use Rattle.span_bounds.specs.Edges.{at, nexts_at, spot, EachNext, IsClosedAt}
use Rattle.span_bounds.specs.Reach.{Below}
use Rattle.span_bounds.specs.Sums.{total, passages, waits, join_into}

-- an entry lies in another
abbrev pub EntryIn : Entry → Entry → Type 0
EntryIn Absent e = Unit {0}
EntryIn (Present a) e = LiesAt a e

-- each next lies at an entry, but for the passages of an open row
abbrev pub LieBut : Follow → Bool → (ℕ → Entry) → List Next → Type 0
LieBut d opens f ns = EachNext (λ n. (opens && n.passes) ≡ false → LiesAt n.ages (f (spot d n))) ns

-- what any table on the way keeps: it has no more than each closed table, and nothing that the first sweep hasn't
pub record IsUnder (u : Setup) (sp : Span) (g x : List Entry) : Type 0 where
  pub size : length x ≡ contexts_of sp
  pub least : (f : ℕ → Entry) → IsClosedAt u sp f → (i : ℕ) → i < contexts_of sp → EntryIn (at x i) (f i)
  pub within : (i : ℕ) → i < contexts_of sp → Below (at x i) (at g i)

-- the second sweep on its way, with the rows below n done
pub record Count (u : Setup) (sp : Span) (g x : List Entry) (m : List ℕ) (n : ℕ) : Type 0 where
  pub under : IsUnder u sp g x
  pub numbers : length m ≡ contexts_of sp
  pub small : (v : ℕ) → slice_index m v ≤ 8 * n
  pub count : (v : ℕ) → v < contexts_of sp → slice_index m v ≡ total n (waits u sp (at g) v)
  pub rows : (i : ℕ) (a : Ages) → i < n → at g i ≡ Present a → LiesAt Empty (at x i)
  pub fresh : (i : ℕ) (a : Ages) → i < n → at g i ≡ Present a → LieBut (followed sp) (is_open a) (at x) (nexts_at u sp i a)

-- the same while row n with these ages is looked at, of whose nexts these are done
pub record Counting (u : Setup) (sp : Span) (g x : List Entry) (m : List ℕ) (n : ℕ) (a : Ages) (done : List Next) : Type 0 where
  pub under : IsUnder u sp g x
  pub numbers : length m ≡ contexts_of sp
  pub small : (v : ℕ) → slice_index m v ≤ 8 * n + passages (followed sp) v done
  pub count : (v : ℕ) → v < contexts_of sp → slice_index m v ≡ total n (waits u sp (at g) v) + (if is_open a then passages (followed sp) v done else 0)
  pub rows : (i : ℕ) (b : Ages) → i < n → at g i ≡ Present b → LiesAt Empty (at x i)
  pub row : LiesAt Empty (at x n)
  pub fresh : (i : ℕ) (b : Ages) → i < n → at g i ≡ Present b → LieBut (followed sp) (is_open b) (at x) (nexts_at u sp i b)
  pub done_fresh : LieBut (followed sp) (is_open a) (at x) done

-- what looking at a next leaves: a passage of an open row is counted, the ages of any other next join those of its row
abbrev pub Counted : Follow → (opens : Bool) → Next → (x new_x : List Entry) (m new_m : List ℕ) → Type 0
Counted d opens n x new_x m new_m = MatchBool (opens && n.passes)
    ((new_x ≡ x) × (new_m ≡ slice_set m (spot d n) (slice_index m (spot d n) + 1)))
    ((new_x ≡ slice_set x (spot d n) (Present (join_into n.ages (at x (spot d n))))) × (new_m ≡ m))
