use Rattle.block_core.proofs.TwinRuns.{twin-hosted_at}
use Rattle.block_core.proofs.twin_laws.two_stimuli_are_a_system.Goals as goal

pub returns : goal.returns
returns c = twin-hosted_at
