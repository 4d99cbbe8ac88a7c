-- Proved over the definitions.
use Rattle.sm_registers.proofs.OwnPins.{tick_writes}
use Rattle.sm_registers.proofs.laws.writes_are_of_pins.Goals as goal

pub returns : goal.returns
returns c = tick_writes
