use Rattle.std.proofs.Common.{◌-◌, length}
use Rattle.pio_lex.proofs.Progress.{Reading}
use Rattle.pio_lex.proofs.lexer.read.Given as goal

abbrev pub invariant-loop-at : goal.invariant-loop-at
invariant-loop-at l = Reading l.source l.tokens.items l.at l.line

abbrev pub decreases-loop-at : goal.decreases-loop-at
decreases-loop-at l = length l.source - l.at
