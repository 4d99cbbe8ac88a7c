-- Proved over the definitions.
use Rattle.sm_registers.proofs.Flow.{pending_leaves_pc, pending_used_up}
use Rattle.sm_registers.proofs.order_laws.a_pending_word_leaves_pc.Goals as goal

pub returns-clause-stays : goal.returns-clause-stays
returns-clause-stays c = pending_leaves_pc

pub returns-clause-used_up : goal.returns-clause-used_up
returns-clause-used_up c = pending_used_up
