use Rattle.std.proofs.Common.{sym}
use Rattle.block_config.proofs.Gather.{count_seen}
use Rattle.block_config.proofs.arrays.count_of.Goals as goal

pub returns : goal.returns
returns c = sym (count_seen c.args.values.now)
