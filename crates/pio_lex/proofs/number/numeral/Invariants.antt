use Rattle.pio_lex.proofs.Numbers.{Reading}
use Rattle.pio_lex.proofs.number.numeral.Given as goal

abbrev pub invariant-loop-byte : goal.invariant-loop-byte
invariant-loop-byte l = Reading l.radix l.value l.digits l.byte-index
