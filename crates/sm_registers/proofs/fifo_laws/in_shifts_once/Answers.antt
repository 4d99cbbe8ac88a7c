-- Proved over the definitions.
use Rattle.sm_registers.proofs.Waits.{in_first, in_late}
use Rattle.sm_registers.proofs.fifo_laws.in_shifts_once.Goals as goal

pub returns-clause-first : goal.returns-clause-first
returns-clause-first c = in_first

pub returns-clause-late : goal.returns-clause-late
returns-clause-late c = in_late
