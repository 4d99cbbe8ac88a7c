use Rattle.block_core.proofs.TwinRuns.{bit_at-shared_pads}
use Rattle.block_core.proofs.twin_laws.each_pad_is_its_owners.Goals as goal

pub returns : goal.returns
returns c = bit_at-shared_pads c.each_pad.ensures
