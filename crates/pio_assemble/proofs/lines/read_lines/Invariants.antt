use Rattle.std.proofs.Common.{◌≡◌, ◌-◌, ◌≤◌, ◌++◌, length}
use Rattle.pio_assemble.specs.Lines.{lines_of, lines_from}
use Rattle.pio_assemble.proofs.lines.read_lines.Given as goal

abbrev pub invariant-loop-first : goal.invariant-loop-first
invariant-loop-first l = record {
  lines : l.lines.items ++ lines_from (length l.tokens - length l.lines.items) l.source l.tokens l.at ≡ lines_of l.source l.tokens;
  count : length l.lines.items ≤ l.at;
  within : l.at ≤ length l.tokens;
}

abbrev pub decreases-loop-first : goal.decreases-loop-first
decreases-loop-first l = length l.tokens - l.at
