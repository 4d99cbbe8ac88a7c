use Rattle.std.proofs.Common.{◌≡◌}
use Rattle.span_bounds.specs.Take.{AreReady}
use Rattle.span_bounds.proofs.take.add_ready.Given as goal

abbrev pub invariant-loop-number : goal.invariant-loop-number
invariant-loop-number l = record {
  ready : AreReady l.left l.missing l.ready.numbers l.number;
  kept : l.ready.room ≡ l.fn.ready.room;
}
