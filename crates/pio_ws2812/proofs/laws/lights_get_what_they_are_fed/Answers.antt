use Rattle.pio_ws2812.proofs.Running.{own, sent}
use Rattle.block_core.specs.Block.{first_run}
use Rattle.pio_ws2812.proofs.laws.lights_get_what_they_are_fed.Goals as goal

pub returns : goal.returns
returns c = λ int pin u some t lines steady words. sent c.samples_tell_the_levels.ensures
    (record { pins = c.each_mapped_pin.ensures.pins; bits = c.each_mapped_pin.ensures.bits }) int some pin u t lines
    (c.a_machine_goes_tick_by_tick.ensures u lines 0 t.machine pin int (own int pin u t) steady some t.is_set_up.divider t.is_set_up.frac)
    (c.accepted_words_have_32_bits.ensures (first_run u) lines words 0)
