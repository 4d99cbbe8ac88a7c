use Rattle.std.proofs.Common.{◌≡◌, ◌*◌, ◌+◌}
use Rattle.span_bounds.specs.Numbers.{contexts_of}
use Rattle.span_bounds.specs.Settle.{IsBegun}
use Rattle.span_bounds.proofs.settle.begin.Given as goal

abbrev pub invariant-loop-number : goal.invariant-loop-number
invariant-loop-number l = record {
  begun : IsBegun l.setup l.span l.left l.table l.waiting.numbers l.number;
  room : l.waiting.room ≡ 2 * contexts_of l.span + 2;
  end : l.waiting.end ≡ contexts_of l.span;
  rest : l.waiting.rest ≡ 0;
}
