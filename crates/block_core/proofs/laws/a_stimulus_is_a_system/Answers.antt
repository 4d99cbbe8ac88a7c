use Rattle.block_core.proofs.Runs.{run-hosted_at, host_of-due_at}
use Rattle.block_core.proofs.laws.a_stimulus_is_a_system.Goals as goal

pub returns : goal.returns
returns c = record { run = run-hosted_at; system = host_of-due_at }
