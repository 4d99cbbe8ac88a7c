-- Where each bit of the ISR comes from.
use Rattle.shift_engine.proofs.BitLaws.{bit_at-in_right, bit_at-in_left}
use Rattle.shift_engine.proofs.laws.bits_in.Goals as goal

pub returns : goal.returns
returns c = record { right = bit_at-in_right; left = bit_at-in_left }
