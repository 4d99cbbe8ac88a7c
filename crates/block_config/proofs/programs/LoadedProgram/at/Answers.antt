use Rattle.std.proofs.Common.{option_map, ap, ◌∙◌}
use Rattle.block_config.specs.Loads.{loaded_of, covers}
use Rattle.block_config.proofs.Found.{find_map}
use Rattle.block_config.proofs.programs.LoadedProgram.at.Goals as goal

pub returns : goal.returns
returns c = ap (option_map loaded_of) (c.copied.ensures ∙ c.first_at.ensures) ∙ find_map loaded_of (λ l. covers l c.args.address) c.args.loads.now
