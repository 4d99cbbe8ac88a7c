use Rattle.block_config.proofs.Says.{setup_of-keys}
use Rattle.block_config.proofs.laws.a_setup_is_what_it_says.Goals as goal

pub returns : goal.returns
returns c = setup_of-keys
