use Rattle.command_line.proofs.Usual.{pair_words_law}
use Rattle.command_line.proofs.laws.pair_words.Goals as goal

pub returns : goal.returns
returns c = pair_words_law
