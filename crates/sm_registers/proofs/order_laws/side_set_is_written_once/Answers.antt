-- Proved over the definitions.
use Rattle.sm_registers.proofs.Waits.{side_first, side_begun, side_delayed}
use Rattle.sm_registers.proofs.order_laws.side_set_is_written_once.Goals as goal

pub returns-clause-first : goal.returns-clause-first
returns-clause-first c = side_first

pub returns-clause-begun : goal.returns-clause-begun
returns-clause-begun c = side_begun

pub returns-clause-delayed : goal.returns-clause-delayed
returns-clause-delayed c = side_delayed
