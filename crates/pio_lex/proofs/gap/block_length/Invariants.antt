use Rattle.pio_lex.proofs.Gaps.{Blocking}
use Rattle.pio_lex.proofs.gap.block_length.Given as goal

abbrev pub invariant-loop-at : goal.invariant-loop-at
invariant-loop-at l = Blocking l.text l.at
