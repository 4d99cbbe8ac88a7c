use Rattle.std.proofs.Common.{◌≡◌, ◌*◌, ◌≤◌, length, take, fold}
use Rattle.span_step.specs.Narrowing.{narrowing_after}
use Rattle.span_step.specs.Steps.{nothing_found, with_outcome}
use Rattle.span_step.proofs.stepping.step_by.Given as goal

-- what is found by the outcomes so far, at most two contexts for each
abbrev pub invariant-loop-outcome : goal.invariant-loop-outcome
invariant-loop-outcome l = record {
  value : l.found ≡ fold (with_outcome l.visit) (nothing_found (narrowing_after l.span l.context.address)) (take l.outcome-index l.outcome-items);
  room : length l.found.ends ≤ 2 * l.outcome-index;
  few : length l.outcome-items ≤ 4;
}
