use Rattle.block_core.proofs.Beginning.{beginning_moves_two}
use Rattle.block_core.proofs.twin_laws.what_begins_moves_two_on.Goals as goal

pub returns : goal.returns
returns c = beginning_moves_two c.a_first_tick_stirs.ensures
