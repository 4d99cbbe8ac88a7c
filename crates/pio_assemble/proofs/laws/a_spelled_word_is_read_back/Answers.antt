-- Proved over the definitions.
use Rattle.pio_assemble.proofs.Texts as law
use Rattle.pio_assemble.proofs.laws.a_spelled_word_is_read_back.Goals as goal

pub returns : goal.returns
returns c = law.is_read
