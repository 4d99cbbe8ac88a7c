-- Proved over the definitions.
use Rattle.sm_registers.proofs.Autopull.{told_only, told_rises}
use Rattle.sm_registers.proofs.fifo_laws.txstall_tells_an_empty_tx.Goals as goal

pub returns-clause-only : goal.returns-clause-only
returns-clause-only c = told_only

pub returns-clause-rises : goal.returns-clause-rises
returns-clause-rises c = told_rises
