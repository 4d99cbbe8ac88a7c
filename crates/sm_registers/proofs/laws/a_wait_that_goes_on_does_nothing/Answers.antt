-- Proved over the definitions.
use Rattle.sm_registers.proofs.Calm.{unmet_waits}
use Rattle.sm_registers.proofs.laws.a_wait_that_goes_on_does_nothing.Goals as goal

pub returns : goal.returns
returns c = unmet_waits
