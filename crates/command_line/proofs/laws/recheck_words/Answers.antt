use Rattle.command_line.proofs.Usual.{recheck_words_law}
use Rattle.command_line.proofs.laws.recheck_words.Goals as goal

pub returns : goal.returns
returns c = recheck_words_law
