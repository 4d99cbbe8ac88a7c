use Rattle.command_line.proofs.Usual.{uart_words_law}
use Rattle.command_line.proofs.laws.uart_words.Goals as goal

pub returns : goal.returns
returns c = uart_words_law
