-- What the synchronisers hold and a machine sees, over the whole history.
use Rattle.pin_matrix.proofs.PadLaws.{after_pads-first, bit_at-seen}
use Rattle.pin_matrix.proofs.laws.what_a_machine_sees.Goals as goal

pub returns : goal.returns
returns c = record { held = after_pads-first; seen = bit_at-seen }
