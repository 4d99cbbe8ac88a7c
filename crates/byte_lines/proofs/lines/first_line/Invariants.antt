use Rattle.std.proofs.Common.{take}
use Rattle.byte_lines.proofs.FirstLine.{IsLine}
use Rattle.byte_lines.proofs.lines.first_line.Given as goal

abbrev pub invariant-loop-at : goal.invariant-loop-at
invariant-loop-at l = IsLine (take l.at l.text)
