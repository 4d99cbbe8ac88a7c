use Rattle.program_runs.proofs.Steady.{left_alone}
use Rattle.program_runs.proofs.laws.a_steady_stimulus_leaves_the_ticks.Goals as goal

pub returns : goal.returns
returns c = left_alone
