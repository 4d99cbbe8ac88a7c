-- The law of a tick that begins an instruction.
use Rattle.sm_registers.proofs.Stirs.{first_stirs}
use Rattle.sm_registers.proofs.laws.a_first_tick_stirs.Goals as goal

pub returns : goal.returns
returns c = first_stirs
