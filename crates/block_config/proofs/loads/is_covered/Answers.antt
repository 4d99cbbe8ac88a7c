use Rattle.std.proofs.Common.{◌∙◌, map, sym}
use Rattle.block_config.specs.Loads.{loaded_of}
use Rattle.block_config.proofs.Found.{is_covered_found, seen_or_not}
use Rattle.block_config.proofs.loads.is_covered.Goals as goal

pub returns : goal.returns
returns c = c.is_some.ensures ∙ sym (seen_or_not loaded_of c.at.result) ∙ is_covered_found (map loaded_of c.args.loads.now) c.args.address _ c.at.ensures
