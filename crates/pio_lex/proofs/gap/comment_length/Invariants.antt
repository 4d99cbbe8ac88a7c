use Rattle.pio_lex.proofs.Gaps.{Closing}
use Rattle.pio_lex.proofs.gap.comment_length.Given as goal

abbrev pub invariant-loop-at : goal.invariant-loop-at
invariant-loop-at l = Closing l.text l.at
