use Rattle.program_runs.proofs.Told.{levels_told}
use Rattle.program_runs.proofs.laws.samples_tell_the_levels.Goals as goal

pub returns : goal.returns
returns c = levels_told
