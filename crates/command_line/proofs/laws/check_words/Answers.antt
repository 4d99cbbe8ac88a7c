use Rattle.command_line.proofs.Usual.{check_words_law}
use Rattle.command_line.proofs.laws.check_words.Goals as goal

pub returns : goal.returns
returns c = check_words_law
