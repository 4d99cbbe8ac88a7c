use Rattle.pio_uart.proofs.Sent.{own, sent}
use Rattle.pio_uart.proofs.laws.a_transmitter_sends_what_it_is_fed.Goals as goal

pub returns : goal.returns
returns c = λ int u some t lines steady. sent c.samples_tell_the_levels.ensures int some u t lines
    (c.a_machine_goes_tick_by_tick.ensures u lines 0 t.machine 0 int (own int u t) steady some t.is_set_up.divider t.is_set_up.frac)
