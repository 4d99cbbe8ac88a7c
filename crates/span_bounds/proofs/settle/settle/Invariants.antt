use Rattle.std.proofs.Common.{◌≡◌, ◌+◌, ◌-◌, ◌*◌}
use Rattle.span_step.specs.Laws.{cap_of}
use Rattle.span_bounds.specs.Numbers.{contexts_of}
use Rattle.span_bounds.specs.Settle.{IsSettling, ease_left}
use Rattle.span_bounds.proofs.settle.settle.Given as goal

abbrev pub invariant-loop-number : goal.invariant-loop-number
invariant-loop-number g l = record {
  settling : IsSettling l.setup l.span l.left l.table l.waiting.numbers l.waiting.rest;
  room : l.waiting.room ≡ 2 * contexts_of l.span + 2;
  end : l.waiting.end ≡ contexts_of l.span;
}

-- each time that a row comes before the rest its table was widened
abbrev pub decreases-loop-number : goal.decreases-loop-number
decreases-loop-number g l = ease_left (cap_of l.setup l.span) l.table l.waiting.numbers + (contexts_of l.span - l.waiting.rest)
