-- What a verdict says.
--   IsProved         the table is the least closed one, and it is good
--   IsUnproved       the first bad context of the least closed table, and its first cause
--   IsVerdict        what a verdict says of a span
use Rattle.std.specs.Prelude.{◌≡◌, Bool, List}
use Rattle.pin_matrix.specs.Followed.{followed}
use Rattle.pin_matrix.specs.declared.setup.Setup.{Setup}
use Rattle.pin_matrix.specs.declared.span.Span.{Span}
use Rattle.span_step.specs.declared.cause.Cause.{Cause}
use Rattle.span_step.specs.Contexts.{Context}
use Rattle.span_bounds.specs.declared.row.Row.{Row}
use Rattle.span_bounds.specs.Tables.{IsProvable}
use Rattle.span_bounds.specs.Answers.{IsGoodLeast, IsFirstBad}
use Rattle.span_verdict.specs.declared.verdict.Verdict.{Verdict}
use Rattle.span_verdict.specs.declared.verdict.Verdict.TheVariants.{Proved, Unproved, Shared}
use Rattle.span_verdict.specs.Sharing.{IsUnshared, IsLeastSharer}
use Rattle.span_verdict.specs.Tables.{opens, closes}

-- No other machine may write a pin of the span, and some closed table is good. The table is the least closed one, and good.
-- The span opens where a step of one of its rows has a from-edge, and closes where one has a to-edge while a from-edge is open.
pub record IsProved (u : Setup) (sp : Span) (rows : List Row) (is_opening is_closing : Bool) : Type 0 where
  pub alone : IsUnshared u sp
  pub provable : IsProvable u sp
  pub table : IsGoodLeast u sp rows
  pub opening : is_opening ≡ opens u sp rows
  pub closing : is_closing ≡ closes u sp rows

-- No other machine may write a pin of the span, and no closed table is good. The context is the first bad one of the least
-- closed table, with its first cause, and it is bad for this cause in each closed table.
pub record IsUnproved (u : Setup) (sp : Span) (k : Context) (cause : Cause) : Type 0 where
  pub alone : IsUnshared u sp
  pub unprovable : IsProvable u sp → ⊥
  pub first : IsFirstBad u sp k cause

-- what a verdict says of a span
abbrev pub IsVerdict : Setup → Span → Verdict → Type 0
IsVerdict u sp (Proved table opening closing) = (table.follow ≡ followed sp) × IsProved u sp table.rows opening closing
IsVerdict u sp (Unproved k cause) = IsUnproved u sp k cause
IsVerdict u sp (Shared m) = IsLeastSharer u sp m
