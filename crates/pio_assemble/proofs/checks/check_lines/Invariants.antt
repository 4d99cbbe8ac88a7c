use Rattle.std.proofs.Common.{◌≡◌, ◌≤◌, drop}
use Rattle.pio_assemble.specs.Checks.{first_fault}
use Rattle.pio_assemble.proofs.checks.check_lines.Given as goal

abbrev pub invariant-loop-index : goal.invariant-loop-index
invariant-loop-index l = record {
  faults : first_fault l.before (drop l.index l.lines) ≡ first_fault l.fn.before l.lines;
  symbols : l.before.symbols ≤ l.index;
  words : l.before.words ≤ l.index;
}
