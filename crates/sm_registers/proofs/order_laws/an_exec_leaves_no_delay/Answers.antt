-- Proved over the definitions.
use Rattle.sm_registers.proofs.Flow.{exec_undelayed, exec_pends, others_delayed}
use Rattle.sm_registers.proofs.order_laws.an_exec_leaves_no_delay.Goals as goal

pub returns-clause-none : goal.returns-clause-none
returns-clause-none c = exec_undelayed

pub returns-clause-pending : goal.returns-clause-pending
returns-clause-pending c = exec_pends

pub returns-clause-others : goal.returns-clause-others
returns-clause-others c = others_delayed
