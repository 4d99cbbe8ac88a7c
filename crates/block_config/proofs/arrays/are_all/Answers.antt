use Rattle.std.proofs.Common.{◌∙◌}
use Rattle.block_config.specs.Arrays.{is_one}
use Rattle.block_config.proofs.Gather.{all_seen}
use Rattle.block_config.proofs.arrays.are_all.Goals as goal

pub returns : goal.returns
returns c = c.are_each.ensures ∙ all_seen (is_one c.args.element) c.args.values.now
