-- Proved over the definitions.
use Rattle.sm_registers.proofs.Calm.{delay_counts}
use Rattle.sm_registers.proofs.laws.a_delay_only_counts.Goals as goal

pub returns : goal.returns
returns c = delay_counts
