use Rattle.command_line.proofs.Usual.{asm_words_law}
use Rattle.command_line.proofs.laws.asm_words.Goals as goal

pub returns : goal.returns
returns c = asm_words_law
