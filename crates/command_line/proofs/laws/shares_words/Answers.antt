use Rattle.command_line.proofs.Usual.{shares_words_law}
use Rattle.command_line.proofs.laws.shares_words.Goals as goal

pub returns : goal.returns
returns c = shares_words_law
