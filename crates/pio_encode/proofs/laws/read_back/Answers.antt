-- Proved over the definitions.
use Rattle.pio_encode.proofs.laws.read_back.Goals as goal
use Rattle.pio_encode.proofs.RoundTrip as law

pub returns : goal.returns
returns c = law.read_back
