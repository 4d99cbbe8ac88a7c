use Rattle.setup_keys.proofs.Alike.{same_block}
use Rattle.setup_keys.proofs.laws.setups_that_say_the_same_are_one.Goals as goal

pub returns : goal.returns
returns c = same_block
