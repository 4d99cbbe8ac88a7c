-- Proved over the definitions.
use Rattle.sm_registers.proofs.Fair.{fair_tick}
use Rattle.sm_registers.proofs.laws.moves_are_fair.Goals as goal

pub returns : goal.returns
returns c = fair_tick
