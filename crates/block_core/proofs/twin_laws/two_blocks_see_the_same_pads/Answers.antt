use Rattle.block_core.proofs.TwinRuns.{first_follows, second_follows}
use Rattle.block_core.proofs.twin_laws.two_blocks_see_the_same_pads.Goals as goal

pub returns : goal.returns
returns c = record { first = first_follows; second = second_follows }
