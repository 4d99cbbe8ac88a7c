-- What is left makes of the ranges so far what all make of none.
use Rattle.std.proofs.Common.{◌≡◌, None, drop}
use Rattle.span_step.specs.Narrowing as spec
use Rattle.span_step.proofs.narrowing.assumed_at.Given as goal

abbrev pub invariant-loop-assumption : goal.invariant-loop-assumption
invariant-loop-assumption l =
    spec.with_assumptions l.address (l.x, l.y) (drop l.assumption-index l.assumptions) ≡ spec.with_assumptions l.address (None, None) l.assumptions
