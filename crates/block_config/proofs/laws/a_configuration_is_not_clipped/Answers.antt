use Rattle.block_config.proofs.Unclipped.{configuration_exact}
use Rattle.block_config.proofs.laws.a_configuration_is_not_clipped.Goals as goal

pub returns : goal.returns
returns c = configuration_exact
