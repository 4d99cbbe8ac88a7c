use Rattle.block_config.proofs.Covered.{program_found}
use Rattle.block_config.proofs.loads.find_program.Goals as goal

pub returns : goal.returns
returns c = program_found c.first_named.result c.args.name.now c.args.programs.now c.first_named.ensures
