use Rattle.std.proofs.Common.{option_map, ap, ◌∙◌}
use Rattle.block_config.specs.Loads.{loaded_of}
use Rattle.block_config.proofs.Found.{loaded_found}
use Rattle.block_config.proofs.programs.LoadedProgram.find.Goals as goal

pub returns : goal.returns
returns c = ap (option_map loaded_of) (c.copied.ensures ∙ c.first.ensures) ∙ loaded_found c.args.name.now c.args.loads.now
