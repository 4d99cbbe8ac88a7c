use Rattle.pio_uart.proofs.Phased.{begins_at_0, begins_there, moves_on}
use Rattle.pio_uart.proofs.laws.a_tick_moves_the_phase.Goals as goal

pub returns : goal.returns
returns c = record { start = begins_there; first = begins_at_0; tick = λ int s v q r h memory on. moves_on int s h v memory q r on }
