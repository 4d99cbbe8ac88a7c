use Rattle.std.proofs.Common.{◌≡◌, ◌*◌, ◌+◌, ◌≤◌, length}
use Rattle.span_bounds.specs.Numbers.{contexts_of}
use Rattle.span_bounds.specs.Reach.{Sweep, room}
use Rattle.span_bounds.proofs.reach.reach.Given as goal

abbrev pub invariant-loop-number : goal.invariant-loop-number
invariant-loop-number g l = record {
  sweep : Sweep l.setup l.span l.grid l.waiting.numbers;
  space : room l.grid + length l.waiting.numbers ≤ l.waiting.room;
  steps : l.steps + (room l.grid + length l.waiting.numbers) ≤ l.fn.steps + 2 * contexts_of l.span;
  kept : l.waiting.room ≡ 2 * contexts_of l.span;
}

-- each row is raised at most twice, and waits after each raise
abbrev pub decreases-loop-number : goal.decreases-loop-number
decreases-loop-number g l = room l.grid + length l.waiting.numbers
