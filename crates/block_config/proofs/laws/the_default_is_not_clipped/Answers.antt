use Rattle.block_config.proofs.Unclipped.{default_setup_exact}
use Rattle.block_config.proofs.laws.the_default_is_not_clipped.Goals as goal

pub returns : goal.returns
returns c = default_setup_exact
