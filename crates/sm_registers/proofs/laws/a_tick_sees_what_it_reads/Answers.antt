-- Proved over the definitions.
use Rattle.sm_registers.proofs.Calm.{tick_alike, delay_sees_nothing}
use Rattle.sm_registers.proofs.laws.a_tick_sees_what_it_reads.Goals as goal

pub returns-clause-instruction : goal.returns-clause-instruction
returns-clause-instruction c = tick_alike

pub returns-clause-waiting : goal.returns-clause-waiting
returns-clause-waiting c = delay_sees_nothing
