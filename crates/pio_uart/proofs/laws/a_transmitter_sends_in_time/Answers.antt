use Rattle.std.proofs.Common.{ℕ, ◌≤◌}
use Rattle.pin_matrix.specs.declared.setup.Setup.{Setup}
use Rattle.program_runs.specs.Feeding.{fed}
use Rattle.pio_uart.specs.Feeding.{SendsInTime}
use Rattle.pio_uart.specs.Transmitter.{IsTransmitter}
use Rattle.pio_uart.proofs.Sent.{own}
use Rattle.pio_uart.proofs.Timely.{sends_in_time, sends_all}
use Rattle.pio_uart.proofs.laws.a_transmitter_sends_in_time.Goals as goal

pub returns : goal.returns
returns c = record { frames = in_time; whole = λ int u some t. sends_all int u (in_time int u some t) } where
  in_time : (int : ℕ) (u : Setup) → 1 ≤ int → IsTransmitter int u → SendsInTime int u
  in_time int u some t words = let h = t.is_set_up in sends_in_time c.samples_tell_the_levels.ensures int some u t words
      (c.a_machine_goes_tick_by_tick.ensures u (fed words) 0 t.machine 0 int (own int u t) (c.a_feed_never_lets_tx_run_dry.ensures.steady words) some h.divider h.frac)
      (c.a_feed_never_lets_tx_run_dry.ensures.supply u words t.machine 0 int (own int u t) some h.divider h.frac h.join_tx h.join_rx)
