use Rattle.block_core.proofs.Insides.{waits_after}
use Rattle.block_core.proofs.laws.a_machine_waits_where_it_stalls.Goals as goal

pub returns : goal.returns
returns c = waits_after
