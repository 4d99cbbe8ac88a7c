use Rattle.command_line.proofs.Usual.{run_words_law}
use Rattle.command_line.proofs.laws.run_words.Goals as goal

pub returns : goal.returns
returns c = run_words_law
