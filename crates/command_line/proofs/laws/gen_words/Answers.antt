use Rattle.command_line.proofs.Usual.{gen_words_law}
use Rattle.command_line.proofs.laws.gen_words.Goals as goal

pub returns : goal.returns
returns c = gen_words_law
