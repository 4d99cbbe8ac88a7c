use Rattle.command_line.proofs.Usual.{table_words_law}
use Rattle.command_line.proofs.laws.table_words.Goals as goal

pub returns : goal.returns
returns c = table_words_law
