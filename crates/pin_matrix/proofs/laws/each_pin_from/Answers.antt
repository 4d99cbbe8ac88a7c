-- Where each pin counted from a base is.
use Rattle.pin_matrix.proofs.Rotations.{bit_at-counted}
use Rattle.pin_matrix.proofs.laws.each_pin_from.Goals as goal

pub returns : goal.returns
returns c = bit_at-counted
