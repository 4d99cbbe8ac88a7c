use Rattle.std.proofs.Common.{◌+◌, ◌≤◌}
use Rattle.span_bounds.specs.Answers.{AreGoodBelow}
use Rattle.span_bounds.proofs.answer.first_bad.Given as goal

abbrev pub invariant-loop-number : goal.invariant-loop-number
invariant-loop-number g l = record {
  good : AreGoodBelow l.setup l.span l.left l.table l.number;
  steps : l.steps ≤ l.fn.steps + l.number;
}
