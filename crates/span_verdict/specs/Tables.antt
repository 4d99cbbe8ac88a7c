-- Tests of a table, row by row.
--   opens            a step of a row has a from-edge
--   closes           a step of a row has a to-edge while a from-edge is open
--   lies_in          a context has a row in which some ages lie
--   is_right         a row isn't bad, and each of its nexts lies within a row
use Rattle.std.specs.Prelude.{nat_le, Bool, true, false, ◌&&◌, Option, Some, None, List}
use Rattle.std.specs.List.{list_all, list_any}
use Rattle.pin_matrix.specs.Followed.{followed}
use Rattle.pin_matrix.specs.declared.assume.Follow.{Follow}
use Rattle.pin_matrix.specs.declared.setup.Setup.{Setup}
use Rattle.pin_matrix.specs.declared.span.Span.{Span}
use Rattle.span_step.specs.declared.ages.Ages.{Ages}
use Rattle.span_step.specs.declared.ages.Ages.TheVariants.{Empty, Between}
use Rattle.span_step.specs.declared.cause.Cause.{Cause}
use Rattle.span_step.specs.declared.stepped.Next.{Next}
use Rattle.span_step.specs.Contexts.{Context}
use Rattle.span_step.specs.Laws.{first_cause}
use Rattle.span_step.specs.Narrowing.{nexts_of}
use Rattle.span_step.specs.Steps.{context_steps}
use Rattle.span_bounds.specs.declared.entry.Entry.{Entry}
use Rattle.span_bounds.specs.declared.entry.Entry.TheVariants.{Absent, Present}
use Rattle.span_bounds.specs.declared.row.Row.{Row}
use Rattle.span_bounds.specs.Tables.{entry_of}

-- the step of a row has a from-edge
abbrev pub has_from_edge : Setup → Span → Row → Bool
has_from_edge u sp r = (context_steps u sp r.context r.ages).from_edge

-- a step of a row has a from-edge
unfoldable pub opens : Setup → Span → List Row → Bool
opens u sp rows = list_any (has_from_edge u sp) rows

-- the step of a row has a to-edge while a from-edge of an earlier tick is open
abbrev pub has_closing_edge : Setup → Span → Row → Bool
has_closing_edge u sp r = (context_steps u sp r.context r.ages).closes

-- a step of a row has such a to-edge
unfoldable pub closes : Setup → Span → List Row → Bool
closes u sp rows = list_any (has_closing_edge u sp) rows

-- each of some ages is one of others
abbrev pub is_inside : Ages → Ages → Bool
is_inside Empty b = true
is_inside (Between lo hi) Empty = false
is_inside (Between lo hi) (Between low high) = nat_le low lo && nat_le hi high

-- there is a row, and the ages lie inside its ages
abbrev pub lies_at : Ages → Entry → Bool
lies_at a Absent = false
lies_at a (Present b) = is_inside a b

-- a context has a row in which these ages lie
abbrev pub lies_in : Follow → List Row → Context → Ages → Bool
lies_in d rows k a = lies_at a (entry_of d rows k)

-- each next lies within a row
unfoldable pub all_lie_in : Follow → List Row → List Next → Bool
all_lie_in d rows nexts = list_all (λ n. lies_in d rows n.context n.ages) nexts

-- there is none
abbrev pub is_none : Option Cause → Bool
is_none None = true
is_none (Some cause) = false

-- a row isn't bad, and each of its nexts lies within a row
unfoldable pub is_right : Setup → Span → List Row → Row → Bool
is_right u sp rows r =
    is_none (first_cause (context_steps u sp r.context r.ages).causes)
    && all_lie_in (followed sp) rows (nexts_of (context_steps u sp r.context r.ages))
