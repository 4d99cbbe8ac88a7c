-- Proved over the definitions.
use Rattle.sm_registers.proofs.Flow.{jump_taken, pc_wraps, pc_goes_on}
use Rattle.sm_registers.proofs.order_laws.a_taken_jump_does_not_wrap.Goals as goal

pub returns-clause-taken : goal.returns-clause-taken
returns-clause-taken c = jump_taken

pub returns-clause-wraps : goal.returns-clause-wraps
returns-clause-wraps c = pc_wraps

pub returns-clause-goes_on : goal.returns-clause-goes_on
returns-clause-goes_on c = pc_goes_on
