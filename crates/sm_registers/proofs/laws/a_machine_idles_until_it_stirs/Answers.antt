-- The law of a machine that idles.
use Rattle.sm_registers.proofs.Stirs.{is_idle}
use Rattle.sm_registers.proofs.laws.a_machine_idles_until_it_stirs.Goals as goal

pub returns : goal.returns
returns c = is_idle
