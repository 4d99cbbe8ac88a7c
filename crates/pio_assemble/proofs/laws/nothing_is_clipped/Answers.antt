-- Proved over the definitions.
use Rattle.pio_assemble.proofs.ManualPrograms as law
use Rattle.pio_assemble.proofs.laws.nothing_is_clipped.Goals as goal

pub returns : goal.returns
returns c = law.none_clipped
