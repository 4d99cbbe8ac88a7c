-- Proved over the definitions.
use Rattle.sm_registers.proofs.OwnPins.{own_levels, own_directions}
use Rattle.sm_registers.proofs.laws.a_tick_writes_its_own_pins.Goals as goal

pub returns-clause-level : goal.returns-clause-level
returns-clause-level c = own_levels

pub returns-clause-direction : goal.returns-clause-direction
returns-clause-direction c = own_directions
