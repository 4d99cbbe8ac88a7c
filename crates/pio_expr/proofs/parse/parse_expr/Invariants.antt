use Rattle.std.proofs.Common.{◌≡◌, ◌+◌, ◌-◌, ◌<◌, ◌≤◌, false, length}
use Rattle.pio_expr.specs.Grammar.{expression_at, read_items}
use Rattle.pio_expr.specs.Waiting.{answer_of, IsSound}
use Rattle.pio_expr.proofs.parse.parse_expr.Given as goal

abbrev pub invariant-loop-reading : goal.invariant-loop-reading
invariant-loop-reading l = record {
  within : l.at ≤ length l.tokens;
  onward : l.from ≤ l.at;
  begun : l.wanted ≡ false → l.from < l.at;
  sound : IsSound l.reading.waiting.items;
  same : expression_at l.source l.tokens l.from ≡ read_items (answer_of l.source l.tokens l.reading l.wanted l.at);
}

abbrev pub decreases-loop-reading : goal.decreases-loop-reading
decreases-loop-reading l = length l.tokens + 1 - l.at
