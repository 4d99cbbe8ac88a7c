-- The pad of each pin.
use Rattle.pin_matrix.proofs.PadLaws.{bit_at-pads_of}
use Rattle.pin_matrix.proofs.laws.each_pad.Goals as goal

pub returns : goal.returns
returns c = bit_at-pads_of
