-- The lines of a stimulus as they are read one after the other, and what may be wrong with the next.
use Rattle.std.specs.Prelude.{◌≡◌, ℕ, ◌<◌, ◌≤◌, nat_lt, Bool, true, false, Option, Some, None, List, [], ◌∷◌, ◌++◌, slice_set, slice_index_or, replicate, if◌then◌else◌}
use Rattle.std.specs.List.{AllByRecursion, list_any}
use Rattle.dreq_pacing.specs.declared.fault.StimKind.{StimKind}
use Rattle.dreq_pacing.specs.declared.fault.StimKind.TheVariants.{Backwards, Crowded}
use Rattle.dreq_pacing.specs.declared.line.Line.{Line}
use Rattle.dreq_pacing.specs.Lines.{IsScheduleOf, is_transfer, is_access, is_crowded}

-- The lines so far, beside so many machines, and the clock of the last of them, 0 where there is none.
pub record Lines : Type 0 where
  pub machines : ℕ
  pub lines : List Line
  pub clock : ℕ

-- no line so far
abbrev pub first_draft : ℕ → Lines
first_draft machines = record { machines = machines; lines = []; clock = 0 }

-- what is wrong with a line after these: its clock is below the last one's, or it crowds one of them
abbrev pub objection : Lines → Line → Option StimKind
objection d l = if nat_lt l.clock d.clock then Some Backwards else if is_crowded d.lines l then Some Crowded else None

-- one line more
abbrev pub with_line : Lines → Line → Lines
with_line d l = record { machines = d.machines; lines = d.lines ++ l ∷ []; clock = l.clock }

-- whether a place is marked as taken
abbrev pub taken_at : Option ℕ → List Bool → Bool
taken_at None taken = false
taken_at (Some place) taken = slice_index_or taken place false

-- one place more marked as taken
abbrev pub marked : Option ℕ → List Bool → List Bool
marked None taken = taken
marked (Some place) taken = slice_set taken place true

-- no access
abbrev pub no_access : List Bool
no_access = replicate 32 false

-- the accesses that still count: those of the last line's clock, if that of the next is the same
abbrev pub still_taken : Bool → List Bool → List Bool
still_taken same taken = if same then taken else no_access

-- What a reader keeps of the lines: the last clock, the transfers of the file and the accesses of the last clock.
pub record IsDraft (machines : ℕ) (lines : List Line) (clock : ℕ) (transfers accesses : List Bool) : Type 0 where
  pub some : 1 ≤ machines
  pub most : machines ≤ 8
  pub schedule : IsScheduleOf machines lines
  pub latest : AllByRecursion (λ l. l.clock ≤ clock) lines
  pub transfer : (place : ℕ) → place < 16 → slice_index_or transfers place false ≡ list_any (is_transfer place) lines
  pub access : (place : ℕ) → place < 32 → slice_index_or accesses place false ≡ list_any (is_access place clock) lines
