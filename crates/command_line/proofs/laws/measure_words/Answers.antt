use Rattle.command_line.proofs.Usual.{measure_words_law}
use Rattle.command_line.proofs.laws.measure_words.Goals as goal

pub returns : goal.returns
returns c = measure_words_law
