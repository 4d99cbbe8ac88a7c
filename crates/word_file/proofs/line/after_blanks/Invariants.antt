use Rattle.std.proofs.Common.{◌≡◌, length}
use Rattle.word_file.specs.Line.{after_blanks}
use Rattle.word_file.proofs.line.after_blanks.Given as goal

-- only blanks were left after
abbrev pub invariant-loop-rest : goal.invariant-loop-rest
invariant-loop-rest l = after_blanks l.rest ≡ after_blanks l.line

abbrev pub decreases-loop-rest : goal.decreases-loop-rest
decreases-loop-rest l = length l.rest
