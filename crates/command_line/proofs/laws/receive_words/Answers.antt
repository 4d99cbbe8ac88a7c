use Rattle.command_line.proofs.Usual.{receive_words_law}
use Rattle.command_line.proofs.laws.receive_words.Goals as goal

pub returns : goal.returns
returns c = receive_words_law
