-- Proved over the definitions.
use Rattle.pio_encode.proofs.Moved as law
use Rattle.pio_encode.proofs.laws.moved_reading.Goals as goal

pub returns : goal.returns
returns c = law.moved_reading
