use Rattle.std.proofs.Common.{◌+◌, ◌≤◌}
use Rattle.span_bounds.specs.Count.{Count}
use Rattle.span_bounds.proofs.count.count.Given as goal

abbrev pub invariant-loop-number : goal.invariant-loop-number
invariant-loop-number g l = record {
  value : Count l.setup l.span l.reach l.table l.missing l.number;
  steps : l.steps ≤ l.fn.steps + l.number;
}
