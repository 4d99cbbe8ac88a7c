use Rattle.command_line.proofs.Usual.{dis_words_law}
use Rattle.command_line.proofs.laws.dis_words.Goals as goal

pub returns : goal.returns
returns c = dis_words_law
