use Rattle.block_config.proofs.Apart.{loads_apart}
use Rattle.block_config.proofs.laws.loads_share_no_address.Goals as goal

pub returns : goal.returns
returns c = loads_apart
