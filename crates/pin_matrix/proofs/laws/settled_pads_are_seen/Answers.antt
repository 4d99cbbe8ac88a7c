-- What is seen of pads that stay.
use Rattle.pin_matrix.proofs.PadLaws.{seen_of-same}
use Rattle.pin_matrix.proofs.laws.settled_pads_are_seen.Goals as goal

pub returns : goal.returns
returns c = seen_of-same
