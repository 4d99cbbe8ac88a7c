use Rattle.block_core.proofs.DelayEnds.{rests-stays}
use Rattle.block_core.proofs.laws.a_delay_ends_when_it_is_told.Goals as goal

pub returns : goal.returns
returns c = rests-stays
