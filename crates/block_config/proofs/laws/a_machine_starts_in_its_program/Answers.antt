use Rattle.block_config.proofs.Home.{in_its_program}
use Rattle.block_config.proofs.laws.a_machine_starts_in_its_program.Goals as goal

pub returns : goal.returns
returns c = in_its_program
