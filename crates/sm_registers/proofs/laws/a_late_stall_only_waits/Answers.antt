-- Proved over the definitions.
use Rattle.sm_registers.proofs.Calm.{late_stall_waits}
use Rattle.sm_registers.proofs.laws.a_late_stall_only_waits.Goals as goal

pub returns : goal.returns
returns c = late_stall_waits
