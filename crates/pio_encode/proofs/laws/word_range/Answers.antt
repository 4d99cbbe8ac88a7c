-- Proved over the definitions.
use Rattle.pio_encode.proofs.laws.word_range.Goals as goal
use Rattle.pio_encode.proofs.RoundTrip as law

pub returns : goal.returns
returns c = law.word_below
