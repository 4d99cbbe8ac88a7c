use Rattle.std.proofs.Common.{ℕ, ◌≤◌}
use Rattle.pin_matrix.specs.declared.setup.Setup.{Setup}
use Rattle.block_core.specs.Block.{first_run}
use Rattle.program_runs.specs.Feeding.{fed}
use Rattle.pio_ws2812.specs.Feeding.{SendsInTime}
use Rattle.pio_ws2812.specs.Transmitter.{IsTransmitter}
use Rattle.pio_ws2812.proofs.Running.{own}
use Rattle.pio_ws2812.proofs.Timely.{sends_in_time, sends_all}
use Rattle.pio_ws2812.proofs.laws.lights_get_a_feed_in_one_frame.Goals as goal

pub returns : goal.returns
returns c = record { pulses = in_time; whole = λ int pin u some t. sends_all int pin u some (in_time int pin u some t) } where
  in_time : (int pin : ℕ) (u : Setup) → 1 ≤ int → IsTransmitter int pin u → SendsInTime int pin u
  in_time int pin u some t ws words = let h = t.is_set_up in let feed = c.a_feed_never_lets_tx_run_dry.ensures in sends_in_time c.samples_tell_the_levels.ensures
      (record { pins = c.each_mapped_pin.ensures.pins; bits = c.each_mapped_pin.ensures.bits }) int some pin u t ws
      (c.a_machine_goes_tick_by_tick.ensures u (fed ws) 0 t.machine pin int (own int pin u t) (feed.steady ws) some h.divider h.frac)
      (c.accepted_words_have_32_bits.ensures (first_run u) (fed ws) (feed.words ws words) 0)
      (feed.supply u ws t.machine pin int (own int pin u t) some h.divider h.frac h.join_tx h.join_rx)
