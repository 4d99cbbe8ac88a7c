use Rattle.std.proofs.Common.{◌≡◌, ◌*◌, ◌+◌, ◌≤◌}
use Rattle.span_bounds.specs.Numbers.{contexts_of}
use Rattle.span_bounds.specs.Take.{IsTaking, work_left}
use Rattle.span_bounds.proofs.take.take.Given as goal

abbrev pub invariant-loop-number : goal.invariant-loop-number
invariant-loop-number g l = record {
  takes : IsTaking l.setup l.span l.left l.table l.missing l.ready.numbers;
  work : work_left l.missing l.ready.numbers ≤ contexts_of l.span;
  steps : l.steps + work_left l.missing l.ready.numbers ≤ l.fn.steps + contexts_of l.span;
  kept : l.ready.room ≡ 2 * contexts_of l.span;
}

-- each row waits until its last passage, and then once more
abbrev pub decreases-loop-number : goal.decreases-loop-number
decreases-loop-number g l = work_left l.missing l.ready.numbers
