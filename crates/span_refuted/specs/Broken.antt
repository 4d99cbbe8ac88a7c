-- A span that is broken.
--   IsBroken         there is a clock up to which it doesn't hold
use Rattle.std.specs.Prelude.{ℕ, []}
use Rattle.pin_matrix.specs.declared.setup.Setup.{Setup}
use Rattle.pin_matrix.specs.declared.span.Span.{Span}
use Rattle.span_check.specs.Runs.{HoldsUpTo}

-- In the run without stimulus lines there is a clock up to which the span doesn't hold.
pub record IsBroken (u : Setup) (sp : Span) : Type 0 where
  pub clocks : ℕ
  pub broken : HoldsUpTo sp u [] clocks → ⊥
