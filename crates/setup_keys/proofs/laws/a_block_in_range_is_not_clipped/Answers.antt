use Rattle.setup_keys.proofs.Exact.{not_clipped}
use Rattle.setup_keys.proofs.laws.a_block_in_range_is_not_clipped.Goals as goal

pub returns : goal.returns
returns c = not_clipped
