use Rattle.command_line.proofs.Given.{taken_words_law}
use Rattle.command_line.proofs.laws.taken_words_give_all.Goals as goal

pub returns : goal.returns
returns c = taken_words_law
