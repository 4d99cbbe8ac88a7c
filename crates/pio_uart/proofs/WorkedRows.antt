-- Worked rows: what the definitions give for runs that were worked out by hand.
use Rattle.std.proofs.Common.{◌≡◌, ℕ, true, false, Some, None, List, [], ◌∷◌, ◌++◌, replicate, refl, sym, ap, ◌∙◌, subst, arith}
use Rattle.clock_divider.specs.Ticks.{is_tick}
use Rattle.fifo_pair.specs.Fifos.{settled}
use Rattle.pin_matrix.specs.Pins.{merged}
use Rattle.pin_matrix.specs.declared.machine.MachineSetup.{MachineSetup}
use Rattle.pin_matrix.specs.declared.setup.Setup.{Setup}
use Rattle.pio_encode.specs.Word.{reading_of, act_of, push_or_pull_at, delay_of, side_of, set_at}
use Rattle.sm_registers.specs.Effects.{effect_of, jmp_effect, out_effect, pull_effect, set_effect}
use Rattle.sm_registers.specs.State.{settled_ports}
use Rattle.sm_registers.specs.Tick.{tick_of, tick_delay, tick_word, tick_by, after_effect}
use Rattle.dreq_pacing.specs.Ports.{due_in, transfers_after}
use Rattle.block_core.specs.Shown.{requests_of, sample_of}
use Rattle.block_core.specs.Block.{stepped, next, first_run}
use Rattle.block_core.specs.Hosted.{hosted_at, hosted_next, samples}
use Rattle.block_core.specs.Slots.{acted, settled_slot}
use Rattle.serial_receiver.specs.declared.frame.Frame.{Frame}
use Rattle.serial_receiver.specs.Frames.{frame_at, frames_from}
use Rattle.program_runs.specs.Accepted.{accepted}
use Rattle.pio_uart.specs.Sending.{frames_in, IsSent, SendsWhatItIsFed}
use Rattle.program_runs.specs.Feeding.{fed}
use Rattle.pio_uart.specs.Feeding.{frames_fed, SendsInTime}
use Rattle.pio_uart.specs.Transmitter.{uart_words}

-- the transmitter's machine, with a tick in each clock
abbrev machine : MachineSetup
machine = record {
  id = 0;
  start = 0;
  x = 0;
  y = 0;
  isr = 0;
  osr = 0;
  isr_count = 0;
  osr_count = 32;
  pending = None;
  int = 1;
  frac = 0;
  side_rule = record { bits = 1; opt = true; pindirs = false; fits = omega arith };
  wrap_bottom = 0;
  wrap_top = 3;
  in_base = 0;
  jmp_pin = 0;
  out = record { base = 0; count = 1; base_is_a_pin = omega arith; count_fits = omega arith };
  set = record { base = 0; count = 5; base_is_a_pin = omega arith; count_fits = omega arith };
  side = record { base = 0; count = 1; base_is_a_pin = omega arith; count_fits = omega arith };
  in_right = true;
  out_right = true;
  autopush = false;
  autopull = false;
  push_threshold = 32;
  pull_threshold = 32;
  join_tx = false;
  join_rx = false;
  status_rx = false;
  status_n = 0;
  id_in_block = omega arith;
  start_in_memory = omega arith;
  isr_has_bits = omega arith;
  osr_has_bits = omega arith;
  divides = refl;
  wrap_bottom_in_memory = omega arith;
  wrap_top_in_memory = omega arith;
  in_base_is_a_pin = omega arith;
  jmp_pin_is_a_pin = omega arith;
  sets_five_at_most = omega arith;
  pushes_some = omega arith;
  pushes_a_word = omega arith;
  pulls_some = omega arith;
  pulls_a_word = omega arith;
  joins_one_way = refl;
  status_in_field = omega arith;
}

-- it alone, over some words
abbrev over : (words : List ℕ) → Setup
over words = record {
  memory = words ++ replicate 28 0;
  machines = Some machine ∷ None ∷ None ∷ None ∷ [];
  high = 0;
  level = 1;
  out = 1;
  bypass = 0;
  spans = [];
  at_their_places = refl;
}

-- its own words, with a tick in every clock and in every second one
uart : Setup
uart = over uart_words

half : Setup
half = record uart { machines = Some (record machine { int = 2; divides = refl }) ∷ None ∷ None ∷ None ∷ []; at_their_places = refl }

-- a good frame
abbrev byte_at : (byte start : ℕ) → Frame
byte_at byte start = record { start = start; byte = byte; good = true }

-- the stop bit of the second byte is read in clock 165
two_bytes : (frames_in uart (fed (0x41 ∷ 0x00 ∷ [])) 8 166 ≡ byte_at 0x41 9 ∷ byte_at 0x00 89 ∷ []) × (accepted (first_run uart) (fed (0x41 ∷ 0x00 ∷ [])) 0 166 ≡ 0x41 ∷ 0x00 ∷ [])
unfolding uart frames_from frame_at samples sample_of accepted hosted_at hosted_next next stepped acted settled_slot is_tick settled merged reading_of act_of push_or_pull_at delay_of side_of set_at effect_of jmp_effect out_effect pull_effect set_effect settled_ports tick_of tick_delay tick_word tick_by after_effect due_in transfers_after requests_of
two_bytes = (refl, refl)

-- one clock earlier it isn't known
one_byte : frames_in uart (fed (0x41 ∷ 0x00 ∷ [])) 8 165 ≡ byte_at 0x41 9 ∷ []
unfolding uart frames_from frame_at samples sample_of hosted_at hosted_next next stepped acted settled_slot is_tick settled merged reading_of act_of push_or_pull_at delay_of side_of set_at effect_of jmp_effect out_effect pull_effect set_effect settled_ports tick_of tick_delay tick_word tick_by after_effect due_in transfers_after requests_of
one_byte = refl

-- nothing is sent where nothing is fed
no_byte : frames_in uart [] 8 100 ≡ []
unfolding uart frames_from frame_at samples sample_of hosted_at hosted_next next stepped acted settled_slot is_tick settled merged reading_of act_of push_or_pull_at delay_of side_of set_at effect_of jmp_effect out_effect pull_effect set_effect settled_ports tick_of tick_delay tick_word tick_by after_effect due_in transfers_after requests_of
no_byte = refl

-- with a tick in every second clock a bit takes 16 clocks
slow_byte : frames_in half (fed (0xff ∷ [])) 16 171 ≡ byte_at 0xff 18 ∷ []
unfolding uart half frames_from frame_at samples sample_of hosted_at hosted_next next stepped acted settled_slot is_tick settled merged reading_of act_of push_or_pull_at delay_of side_of set_at effect_of jmp_effect out_effect pull_effect set_effect settled_ports tick_of tick_delay tick_word tick_by after_effect due_in transfers_after requests_of
slow_byte = refl

-- the same by the frames that are whole
in_time : (frames_fed 1 166 0 (0x41 ∷ 0x00 ∷ []) ≡ byte_at 0x41 9 ∷ byte_at 0x00 89 ∷ []) × (frames_fed 1 165 0 (0x41 ∷ 0x00 ∷ []) ≡ byte_at 0x41 9 ∷ []) × (frames_fed 2 171 0 (0xff ∷ []) ≡ byte_at 0xff 18 ∷ [])
in_time = (refl, refl, refl)

-- with `set x, 7 side 0 [3]` the start bit has four ticks
short_start : Setup
short_start = over (0x9fa0 ∷ 0xf327 ∷ 0x6001 ∷ 0x0642 ∷ [])

-- each bit is read a bit late
late_bits : (frames_in short_start (fed (0x41 ∷ [])) 8 90 ≡ byte_at 0xa0 9 ∷ []) × (accepted (first_run short_start) (fed (0x41 ∷ [])) 0 90 ≡ 0x41 ∷ [])
unfolding short_start accepted frames_from frame_at samples sample_of hosted_at hosted_next next stepped acted settled_slot is_tick settled merged reading_of act_of push_or_pull_at delay_of side_of set_at effect_of jmp_effect out_effect pull_effect set_effect settled_ports tick_of tick_delay tick_word tick_by after_effect due_in transfers_after requests_of
late_bits = (refl, refl)

-- so it doesn't send what it is fed
wrong_byte : IsSent (0x41 ∷ []) (byte_at 0xa0 9 ∷ []) → ⊥
wrong_byte h = let e : ◌≡◌ {A = List ℕ} (65 ∷ []) (160 ∷ h.bytes.rest) = h.bytes.parts in let k : ◌≡◌ {A = ℕ} 65 160 = cc in omega (arith, k)

short_start_fails : SendsWhatItIsFed 8 short_start → ⊥
short_start_fails h = wrong_byte (subst (IsSent (0x41 ∷ [])) late_bits.0 (subst (λ ws. IsSent ws (frames_in short_start (fed (0x41 ∷ [])) 8 90)) late_bits.1 (h (fed (0x41 ∷ [])) (refl, tt) 90)))

-- with `[6]` it has seven
long_start : Setup
long_start = over (0x9fa0 ∷ 0xf627 ∷ 0x6001 ∷ 0x0642 ∷ [])

-- the bytes are right, and the second one comes a clock early
early_byte : frames_in long_start (fed (0x41 ∷ 0x00 ∷ [])) 8 166 ≡ byte_at 0x41 9 ∷ byte_at 0x00 88 ∷ []
unfolding long_start frames_from frame_at samples sample_of hosted_at hosted_next next stepped acted settled_slot is_tick settled merged reading_of act_of push_or_pull_at delay_of side_of set_at effect_of jmp_effect out_effect pull_effect set_effect settled_ports tick_of tick_delay tick_word tick_by after_effect due_in transfers_after requests_of
early_byte = refl

-- so it doesn't send in time
long_start_fails : SendsInTime 1 long_start → ⊥
long_start_fails h = let e : byte_at 0x41 9 ∷ byte_at 0x00 88 ∷ [] ≡ byte_at 0x41 9 ∷ byte_at 0x00 89 ∷ [] = sym early_byte ∙ h (0x41 ∷ 0x00 ∷ []) 166 in early (ap starts e) where
  starts : List Frame → ℕ
  starts [] = 0
  starts (f ∷ []) = 0
  starts (f ∷ g ∷ fs) = g.start

  early : ◌≡◌ {A = ℕ} 88 89 → ⊥
  early k = omega (arith, k)
