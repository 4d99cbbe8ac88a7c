use Rattle.block_core.proofs.Insides.{pads_inside}
use Rattle.block_core.proofs.laws.pads_inside_are_the_clocks_own.Goals as goal

pub returns : goal.returns
returns c = pads_inside
