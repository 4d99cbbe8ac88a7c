use Rattle.std.proofs.Common.{◌≡◌, drop}
use Rattle.pio_assemble.specs.Lines.{has_word}
use Rattle.pio_assemble.proofs.checks.has_word.Given as goal

abbrev pub invariant-loop-line : goal.invariant-loop-line
invariant-loop-line l = has_word (drop l.line-index l.lines) ≡ has_word l.lines
