use Rattle.command_line.proofs.Usual.{inspect_words_law}
use Rattle.command_line.proofs.laws.inspect_words.Goals as goal

pub returns : goal.returns
returns c = inspect_words_law
