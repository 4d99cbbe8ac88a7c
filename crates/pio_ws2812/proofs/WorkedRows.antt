-- Worked rows: what the definitions give for runs that were worked out by hand.
use Rattle.std.proofs.Common.{◌≡◌, ℕ, ◌*◌, ◌⊎◌, inl, inr, true, false, Some, None, List, [], ◌∷◌, ◌++◌, take, replicate, refl, sym, ◌∙◌, ap, subst, arith}
use Rattle.clock_divider.specs.Ticks.{is_tick}
use Rattle.fifo_pair.specs.Fifos.{settled}
use Rattle.pin_matrix.specs.Pins.{merged}
use Rattle.pin_matrix.specs.declared.machine.MachineSetup.{MachineSetup}
use Rattle.pin_matrix.specs.declared.setup.Setup.{Setup}
use Rattle.pio_encode.specs.Word.{reading_of, act_of, delay_of, side_of, mov_at}
use Rattle.sm_registers.specs.Effects.{effect_of, jmp_effect, out_effect, mov_effect}
use Rattle.sm_registers.specs.State.{settled_ports}
use Rattle.sm_registers.specs.Tick.{tick_of, tick_delay, tick_word, tick_by, after_effect}
use Rattle.dreq_pacing.specs.Ports.{due_in, transfers_after}
use Rattle.block_core.specs.Shown.{requests_of, sample_of}
use Rattle.block_core.specs.Block.{stepped, next, first_run}
use Rattle.block_core.specs.Hosted.{hosted_at, hosted_next, samples}
use Rattle.block_core.specs.Slots.{acted, settled_slot}
use Rattle.program_runs.specs.Accepted.{accepted}
use Rattle.program_runs.specs.Feeding.{fed}
use Rattle.pio_ws2812.specs.Pulses.{Pulse, pulses_from, bits_read}
use Rattle.pio_ws2812.specs.Sending.{word_bits, bits_down, bits_of, pulses_in, IsSent, SendsWhatItIsFed}
use Rattle.pio_ws2812.specs.Feeding.{pulses_fed, SendsInTime}
use Rattle.pio_ws2812.specs.Transmitter.{ws2812_words}

-- the transmitter's machine, with a tick in each clock and pin 0
abbrev machine : MachineSetup
machine = record {
  id = 0;
  start = 0;
  x = 0;
  y = 0;
  isr = 0;
  osr = 0;
  isr_count = 0;
  osr_count = 32;
  pending = None;
  int = 1;
  frac = 0;
  side_rule = record { bits = 1; opt = false; pindirs = false; fits = omega arith };
  wrap_bottom = 0;
  wrap_top = 3;
  in_base = 0;
  jmp_pin = 0;
  out = record { base = 0; count = 0; base_is_a_pin = omega arith; count_fits = omega arith };
  set = record { base = 0; count = 5; base_is_a_pin = omega arith; count_fits = omega arith };
  side = record { base = 0; count = 1; base_is_a_pin = omega arith; count_fits = omega arith };
  in_right = true;
  out_right = false;
  autopush = false;
  autopull = true;
  push_threshold = 32;
  pull_threshold = 24;
  join_tx = false;
  join_rx = false;
  status_rx = false;
  status_n = 0;
  id_in_block = omega arith;
  start_in_memory = omega arith;
  isr_has_bits = omega arith;
  osr_has_bits = omega arith;
  divides = refl;
  wrap_bottom_in_memory = omega arith;
  wrap_top_in_memory = omega arith;
  in_base_is_a_pin = omega arith;
  jmp_pin_is_a_pin = omega arith;
  sets_five_at_most = omega arith;
  pushes_some = omega arith;
  pushes_a_word = omega arith;
  pulls_some = omega arith;
  pulls_a_word = omega arith;
  joins_one_way = refl;
  status_in_field = omega arith;
}

-- it alone, over some words
abbrev over : (words : List ℕ) → Setup
over words = record {
  memory = words ++ replicate 28 0;
  machines = Some machine ∷ None ∷ None ∷ None ∷ [];
  high = 0;
  level = 0;
  out = 1;
  bypass = 0;
  spans = [];
  at_their_places = refl;
}

-- its own words, with a tick in every clock
lights : Setup
lights = over ws2812_words

-- with a tick in every second clock, on pin 5
half : Setup
half = record lights {
  machines = Some (record machine { int = 2; divides = refl; side = record { base = 5; count = 1; base_is_a_pin = omega arith; count_fits = omega arith } }) ∷ None ∷ None ∷ None ∷ [];
  out = 32;
  at_their_places = refl;
}

abbrev pulse : (start high low : ℕ) → Pulse
pulse start high low = record { start = start; high = high; low = low }

-- the word 101 0..0: four pulses, of which the last is over in clock 37
four_bits : (pulses_in lights (fed (0xa0000000 ∷ [])) 0 38 ≡ pulse 5 7 3 ∷ pulse 15 2 8 ∷ pulse 25 7 3 ∷ pulse 35 2 1 ∷ [])
    × (accepted (first_run lights) (fed (0xa0000000 ∷ [])) 0 38 ≡ 0xa0000000 ∷ [])
    × (bits_read 4 (pulse 5 7 3 ∷ pulse 15 2 8 ∷ pulse 25 7 3 ∷ pulse 35 2 1 ∷ []) ≡ true ∷ false ∷ true ∷ false ∷ [])
    × (take 4 (word_bits 0xa0000000) ≡ true ∷ false ∷ true ∷ false ∷ [])
unfolding lights pulses_from samples sample_of accepted hosted_at hosted_next next stepped acted settled_slot is_tick settled merged reading_of act_of delay_of side_of mov_at effect_of jmp_effect out_effect mov_effect settled_ports tick_of tick_delay tick_word tick_by after_effect due_in transfers_after requests_of word_bits bits_down
four_bits = (refl, refl, refl, refl)

-- one clock earlier it isn't over, and isn't read
three_bits : (pulses_in lights (fed (0xa0000000 ∷ [])) 0 37 ≡ pulse 5 7 3 ∷ pulse 15 2 8 ∷ pulse 25 7 3 ∷ pulse 35 2 0 ∷ [])
    × (bits_read 4 (pulse 5 7 3 ∷ pulse 15 2 8 ∷ pulse 25 7 3 ∷ pulse 35 2 0 ∷ []) ≡ true ∷ false ∷ true ∷ [])
unfolding lights pulses_from samples sample_of accepted hosted_at hosted_next next stepped acted settled_slot is_tick settled merged reading_of act_of delay_of side_of mov_at effect_of jmp_effect out_effect mov_effect settled_ports tick_of tick_delay tick_word tick_by after_effect due_in transfers_after requests_of word_bits bits_down
three_bits = (refl, refl)

-- nothing is sent where nothing is fed
no_bit : pulses_in lights [] 0 60 ≡ []
unfolding lights pulses_from samples sample_of accepted hosted_at hosted_next next stepped acted settled_slot is_tick settled merged reading_of act_of delay_of side_of mov_at effect_of jmp_effect out_effect mov_effect settled_ports tick_of tick_delay tick_word tick_by after_effect due_in transfers_after requests_of word_bits bits_down
no_bit = refl

-- with a tick in every second clock a bit takes 20 clocks, on another pin
slow_bits : pulses_in half (fed (0x40000000 ∷ [])) 5 46 ≡ pulse 10 4 16 ∷ pulse 30 14 2 ∷ []
unfolding lights half pulses_from samples sample_of accepted hosted_at hosted_next next stepped acted settled_slot is_tick settled merged reading_of act_of delay_of side_of mov_at effect_of jmp_effect out_effect mov_effect settled_ports tick_of tick_delay tick_word tick_by after_effect due_in transfers_after requests_of word_bits bits_down
slow_bits = refl

-- the same by the pulses that are fed
in_time : (pulses_fed 1 38 0 (bits_of (0xa0000000 ∷ [])) ≡ pulse 5 7 3 ∷ pulse 15 2 8 ∷ pulse 25 7 3 ∷ pulse 35 2 1 ∷ [])
    × (pulses_fed 2 46 0 (bits_of (0x40000000 ∷ [])) ≡ pulse 10 4 16 ∷ pulse 30 14 2 ∷ [])
    × (pulses_fed 1 60 0 (bits_of []) ≡ [])
unfolding word_bits bits_down
in_time = (refl, refl, refl)

-- with `jmp bitloop side 1 [3]` the pulse of a 1 has six ticks
short_one : Setup
short_one = over (0x6221 ∷ 0x1123 ∷ 0x1300 ∷ 0xa442 ∷ [])

six_ticks : pulses_in short_one (fed (0xa0000000 ∷ [])) 0 15 ≡ pulse 5 6 3 ∷ pulse 14 1 0 ∷ []
unfolding short_one pulses_from samples sample_of accepted hosted_at hosted_next next stepped acted settled_slot is_tick settled merged reading_of act_of delay_of side_of mov_at effect_of jmp_effect out_effect mov_effect settled_ports tick_of tick_delay tick_word tick_by after_effect due_in transfers_after requests_of word_bits bits_down
six_ticks = refl

-- so it doesn't send what it is fed
short_one_fails : SendsWhatItIsFed 1 0 short_one → ⊥
short_one_fails h = by ((subst (IsSent 1 0 _) six_ticks (h (fed (0xa0000000 ∷ [])) (refl, tt) ((omega arith, tt), tt) 15)).high.0 (omega arith)) where
  by : (6 ≡ 2 * 1) ⊎ (6 ≡ 7 * 1) → ⊥
  by (inl e) = omega (arith, e)
  by (inr e) = omega (arith, e)

-- nor what one feed gives it, in time
short_one_is_out_of_time : SendsInTime 1 0 short_one → ⊥
unfolding word_bits bits_down
short_one_is_out_of_time h = let e : pulse 5 6 3 ∷ pulse 14 1 0 ∷ [] ≡ pulse 5 7 3 ∷ [] = sym six_ticks ∙ h (0xa0000000 ∷ []) (omega arith, tt) 15 in by (ap first_high e) where
  first_high : List Pulse → ℕ
  first_high [] = 0
  first_high (p ∷ ps) = p.high

  by : ◌≡◌ {A = ℕ} 6 7 → ⊥
  by k = omega (arith, k)

-- without the `nop`, the word after the program is `jmp 0 side 0`, and the pin is low for four ticks after the pulse of a 0
no_nop : Setup
no_nop = over (0x6221 ∷ 0x1123 ∷ 0x1400 ∷ 0x0000 ∷ [])

four_ticks : pulses_in no_nop (fed (0x00000000 ∷ [])) 0 12 ≡ pulse 5 2 4 ∷ pulse 11 1 0 ∷ []
unfolding no_nop pulses_from samples sample_of accepted hosted_at hosted_next next stepped acted settled_slot is_tick settled merged reading_of act_of delay_of side_of mov_at effect_of jmp_effect out_effect mov_effect settled_ports tick_of tick_delay tick_word tick_by after_effect due_in transfers_after requests_of word_bits bits_down
four_ticks = refl

no_nop_fails : SendsWhatItIsFed 1 0 no_nop → ⊥
no_nop_fails h = by (subst (IsSent 1 0 _) four_ticks (h (fed (0x00000000 ∷ [])) (refl, tt) ((omega arith, tt), tt) 12)).low.0 where
  by : ◌≡◌ {A = ℕ} 4 8 → ⊥
  by e = omega (arith, e)
