use Rattle.setup_keys.proofs.Making.{a_setup_says}
use Rattle.setup_keys.proofs.laws.a_clipped_block_has_a_setup.Goals as goal

pub returns : goal.returns
returns c = a_setup_says
