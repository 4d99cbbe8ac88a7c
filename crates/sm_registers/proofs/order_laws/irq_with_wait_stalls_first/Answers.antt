-- Proved over the definitions.
use Rattle.sm_registers.proofs.Waits.{irq_first, irq_late, irq_clear}
use Rattle.sm_registers.proofs.order_laws.irq_with_wait_stalls_first.Goals as goal

pub returns-clause-first : goal.returns-clause-first
returns-clause-first c = irq_first

pub returns-clause-late : goal.returns-clause-late
returns-clause-late c = irq_late

pub returns-clause-clear : goal.returns-clause-clear
returns-clause-clear c = irq_clear
