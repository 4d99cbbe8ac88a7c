use Rattle.block_core.proofs.Beginning.{beginning_moves}
use Rattle.block_core.proofs.laws.what_begins_moves_on.Goals as goal

pub returns : goal.returns
returns c = beginning_moves c.a_first_tick_stirs.ensures
