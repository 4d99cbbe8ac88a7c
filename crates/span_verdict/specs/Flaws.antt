-- What is wrong with a table.
--   row_flaw         what is wrong with a row
--   first_flaw       what is wrong with a table first
use Rattle.std.specs.Prelude.{if◌then◌else◌, Option, Some, None, List, [], ◌∷◌}
use Rattle.pin_matrix.specs.Followed.{followed}
use Rattle.pin_matrix.specs.declared.setup.Setup.{Setup}
use Rattle.pin_matrix.specs.declared.span.Span.{Span}
use Rattle.span_step.specs.declared.ages.Ages.TheVariants.{Empty}
use Rattle.span_step.specs.declared.cause.Cause.{Cause}
use Rattle.span_step.specs.Contexts.{Context}
use Rattle.span_step.specs.Laws.{first_cause}
use Rattle.span_step.specs.Narrowing.{nexts_of}
use Rattle.span_step.specs.Steps.{context_steps}
use Rattle.span_bounds.specs.declared.row.Row.{Row}
use Rattle.span_bounds.specs.Tables.{start_context}
use Rattle.span_verdict.specs.declared.table_flaw.Flaw.{Flaw}
use Rattle.span_verdict.specs.declared.table_flaw.Flaw.TheVariants.{Start, Open, Bad}
use Rattle.span_verdict.specs.Tables.{lies_in, all_lie_in}

-- a row that is bad for this cause, if there is one
abbrev pub bad_at : Context → Option Cause → Option Flaw
bad_at k None = None
bad_at k (Some cause) = Some (Bad k cause)

-- What is wrong with a row: a next that doesn't lie within a row comes before the first cause for which the row is bad.
unfoldable pub row_flaw : Setup → Span → List Row → Row → Option Flaw
row_flaw u sp rows r =
    if all_lie_in (followed sp) rows (nexts_of (context_steps u sp r.context r.ages))
    then bad_at r.context (first_cause (context_steps u sp r.context r.ages).causes)
    else Some (Open r.context)

-- one flaw, or a later one where there is none
abbrev pub or_later : Option Flaw → Option Flaw → Option Flaw
or_later (Some flaw) later = Some flaw
or_later None later = later

-- what is wrong first with these rows of a table
abbrev pub rows_flaw : Setup → Span → List Row → List Row → Option Flaw
rows_flaw u sp rows [] = None
rows_flaw u sp rows (r ∷ rs) = or_later (row_flaw u sp rows r) (rows_flaw u sp rows rs)

-- What is wrong with a table first: it has no row for the start, or the flaw of its least row that has one.
unfoldable pub first_flaw : Setup → Span → List Row → Option Flaw
first_flaw u sp rows = if lies_in (followed sp) rows (start_context u sp) Empty then rows_flaw u sp rows rows else Some Start
