-- Where each bit of an OUT comes from, and each bit of the OSR after it.
use Rattle.shift_engine.proofs.BitLaws.{bit_at-out_right, bit_at-rest_right, bit_at-out_left, bit_at-rest_left}
use Rattle.shift_engine.proofs.laws.bits_out.Goals as goal

pub returns : goal.returns
returns c = record { right = bit_at-out_right; rest_right = bit_at-rest_right; left = bit_at-out_left; rest_left = bit_at-rest_left }
