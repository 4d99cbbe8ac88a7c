-- Tables of the checker, as lists of rows.
--   entry_at         what a table says of the context with this number
--   LiesAt           ages lie within an entry
--   IsTable          the rows are in context order, each context once
--   start_context    where a table starts
--   IsClosed         a table holds the start, and each next of each row lies within a row
--   IsGood           no row is bad
--   LiesWithin       each row of a table lies within a row of another
--   IsLeast          the least closed table
--   IsProvable       some closed table is good
--   first_bad        the first bad row with its first cause
use Rattle.std.specs.Prelude.{◌≡◌, ℕ, ◌+◌, ◌==◌, nat_lt, if◌then◌else◌, Option, Some, None, List, [], ◌∷◌, IsTrue, slice_index_or}
use Rattle.pin_matrix.specs.Followed.{followed}
use Rattle.pin_matrix.specs.Pins.{is_high}
use Rattle.pin_matrix.specs.declared.assume.Follow.{Follow}
use Rattle.pin_matrix.specs.declared.machine.MachineSetup.{MachineSetup}
use Rattle.pin_matrix.specs.Spans.{signal_bits}
use Rattle.pin_matrix.specs.declared.setup.Setup.{Setup}
use Rattle.pin_matrix.specs.declared.span.Span.{Span}
use Rattle.span_step.specs.declared.ages.Ages.{Ages}
use Rattle.span_step.specs.declared.ages.Ages.TheVariants.{Empty}
use Rattle.span_step.specs.declared.cause.Cause.{Cause}
use Rattle.span_step.specs.declared.stepped.Next.{Next}
use Rattle.span_step.specs.Contexts.{Context, is_placed, IsInside}
use Rattle.span_step.specs.Laws.{first_cause}
use Rattle.span_step.specs.Narrowing.{followed_to, nexts_of}
use Rattle.span_step.specs.Steps.{context_steps}
use Rattle.span_bounds.specs.declared.entry.Entry.{Entry}
use Rattle.span_bounds.specs.declared.entry.Entry.TheVariants.{Absent, Present}
use Rattle.span_bounds.specs.declared.row.Row.{Row}
use Rattle.span_bounds.specs.Numbers.{number_of, context_at}

-- what a table says of the context with this number
abbrev pub entry_at : Follow → List Row → ℕ → Entry
entry_at d [] i = Absent
entry_at d (r ∷ rows) i = if number_of d r.context == i then Present r.ages else entry_at d rows i

-- what a table says of a context: nothing where its X or Y is above what is followed
abbrev pub entry_of : Follow → List Row → Context → Entry
entry_of d rows k = if is_placed d k.address k.x k.y then entry_at d rows (number_of d k) else Absent

-- there is a row, and the ages lie inside its ages
abbrev pub LiesAt : Ages → Entry → Type 0
LiesAt a Absent = ⊥
LiesAt a (Present b) = IsInside a b

-- each context is in range, and its number is above this one, and the next one's above its
abbrev pub IsTableFrom : Follow → ℕ → List Row → Type 0
IsTableFrom d n [] = Unit {0}
IsTableFrom d n (r ∷ rows) =
    IsTrue (is_placed d r.context.address r.context.x r.context.y) × (IsTrue (nat_lt n (number_of d r.context + 1)) × IsTableFrom d (number_of d r.context + 1) rows)

-- the rows are in context order, each context once
abbrev pub IsTable : Follow → List Row → Type 0
IsTable d rows = IsTableFrom d 0 rows

-- the context of a machine at its start
abbrev pub started : Option MachineSetup → Setup → Span → Context
started None u sp = context_at (followed sp) 0
started (Some s) u sp = record {
  address = s.start;
  x = followed_to (followed sp).x (Some s.x);
  y = followed_to (followed sp).y (Some s.y);
  from = is_high (signal_bits sp.from_signal u.level u.out) sp.from_pin;
  to = is_high (signal_bits sp.to_signal u.level u.out) sp.to_pin;
}

-- where a table starts: the machine's first address, its X and Y, and the initial levels and directions; no ages
unfoldable pub start_context : Setup → Span → Context
start_context u sp = started (slice_index_or u.machines sp.machine None) u sp

-- each next lies within a row
abbrev pub AllLieIn : Follow → List Row → List Next → Type 0
AllLieIn d rows [] = Unit {0}
AllLieIn d rows (n ∷ nexts) = LiesAt n.ages (entry_at d rows (number_of d n.context)) × AllLieIn d rows nexts

-- a fact of each row
abbrev pub EachRow : (Row → Type 0) → List Row → Type 0
EachRow P [] = Unit {0}
EachRow P (r ∷ rows) = P r × EachRow P rows

-- it holds the start, and each next of each row lies within a row
pub record IsClosed (u : Setup) (sp : Span) (rows : List Row) : Type 0 where
  pub starts : LiesAt Empty (entry_at (followed sp) rows (number_of (followed sp) (start_context u sp)))
  pub steps : EachRow (λ r. AllLieIn (followed sp) rows (nexts_of (context_steps u sp r.context r.ages))) rows

-- no row is bad
abbrev pub IsGood : Setup → Span → List Row → Type 0
IsGood u sp rows = EachRow (λ r. first_cause (context_steps u sp r.context r.ages).causes ≡ None) rows

-- each row of the first has its context in the second, with its ages inside
abbrev pub LiesWithin : Follow → List Row → List Row → Type 0
LiesWithin d rows others = EachRow (λ r. LiesAt r.ages (entry_at d others (number_of d r.context))) rows

-- it is closed, and lies within every closed table
pub record IsLeast (u : Setup) (sp : Span) (rows : List Row) : Type 0 where
  pub table : IsTable (followed sp) rows
  pub closed : IsClosed u sp rows
  pub least : (others : List Row) → IsTable (followed sp) others → IsClosed u sp others → LiesWithin (followed sp) rows others

-- some closed table is good
pub record IsProvable (u : Setup) (sp : Span) : Type 0 where
  pub rows : List Row
  pub table : IsTable (followed sp) rows
  pub closed : IsClosed u sp rows
  pub good : IsGood u sp rows

-- the bad row, unless there is no cause
abbrev pub bad_or : Option Cause → Context → Option (Context × Cause) → Option (Context × Cause)
bad_or (Some cause) k later = Some (k, cause)
bad_or None k later = later

-- the first bad row in context order, and in it the first cause
abbrev pub first_bad : Setup → Span → List Row → Option (Context × Cause)
first_bad u sp [] = None
first_bad u sp (r ∷ rows) = bad_or (first_cause (context_steps u sp r.context r.ages).causes) r.context (first_bad u sp rows)

-- the rows of a grid in context order, from this number on
abbrev pub rows_from : Follow → ℕ → List Entry → List Row
rows_from d n [] = []
rows_from d n (Absent ∷ entries) = rows_from d (n + 1) entries
rows_from d n (Present a ∷ entries) = record { context = context_at d n; ages = a } ∷ rows_from d (n + 1) entries

-- rows, and how far X and Y are followed in them
pub record FollowedRows : Type 0 where
  pub follow : Follow
  pub rows : List Row

-- the ages of an entry, if there is a row
abbrev pub ages_of : Entry → Option Ages
ages_of Absent = None
ages_of (Present a) = Some a
