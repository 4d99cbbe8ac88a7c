use Rattle.std.proofs.Common.{◌∙◌}
use Rattle.block_config.proofs.Known.{known_keys}
use Rattle.block_config.proofs.table.are_known.Goals as goal

pub returns : goal.returns
returns c = c.all_among.ensures ∙ known_keys c.args.names.now c.args.table.now.entries
