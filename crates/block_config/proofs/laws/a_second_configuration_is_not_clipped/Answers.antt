use Rattle.block_config.proofs.Unclipped.{second_exact}
use Rattle.block_config.proofs.laws.a_second_configuration_is_not_clipped.Goals as goal

pub returns : goal.returns
returns c = second_exact
