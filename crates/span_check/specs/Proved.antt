-- What a proof of a span gives.
--   HoldsOverAnyPads  a span holds in every run of its setup over any pads
--   HoldsInEveryRun   and in every run of it with a stimulus
--   VerdictHolds      what a verdict says of runs
use Rattle.std.specs.Prelude.{◌≡◌, ℕ, List}
use Rattle.pin_matrix.specs.declared.setup.Setup.{Setup}
use Rattle.pin_matrix.specs.declared.span.Span.{Span}
use Rattle.dreq_pacing.specs.declared.due.Due.{Due}
use Rattle.dreq_pacing.specs.declared.line.Line.{Line}
use Rattle.block_core.specs.Block.{BlockState, first_state}
use Rattle.block_core.specs.Following.{Follows}
use Rattle.span_verdict.specs.declared.verdict.Verdict.{Verdict}
use Rattle.span_verdict.specs.declared.verdict.Verdict.TheVariants.{Proved, Unproved, Shared}
use Rattle.span_check.specs.Runs.{HoldsOver, HoldsUpTo}

-- the span holds in every run of the setup in which the machines see any pads
abbrev pub HoldsOverAnyPads : Setup → Span → Type 0
HoldsOverAnyPads u sp =
    (seen : ℕ → ℕ) (host : ℕ → Due) (states : ℕ → BlockState) → states 0 ≡ first_state u → Follows u.memory seen host states
    → (n : ℕ) → HoldsOver sp u.memory seen host states n

-- The span holds up to every clock, with every stimulus, and so it does where the machines see any other pads.
pub record HoldsInEveryRun (u : Setup) (sp : Span) : Type 0 where
  pub beside : (lines : List Line) (n : ℕ) → HoldsUpTo sp u lines n
  pub over_any_pads : HoldsOverAnyPads u sp

-- a span whose verdict is that it is proved holds in every run; the other verdicts say nothing of runs
abbrev pub VerdictHolds : Setup → Span → Verdict → Type 0
VerdictHolds u sp (Proved table opens closes) = HoldsInEveryRun u sp
VerdictHolds u sp (Unproved k cause) = Unit {0}
VerdictHolds u sp (Shared m) = Unit {0}
