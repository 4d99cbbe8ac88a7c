-- Rows of which clocks stir, worked by hand: the definitions compute to them.
use Rattle.std.proofs.Common.{◌≡◌, ℕ, true, false, Some, None, List, [], ◌∷◌, refl, arith}
use Rattle.clock_divider.specs.Ticks.{is_tick}
use Rattle.fifo_pair.specs.Fifos.{settled}
use Rattle.pin_matrix.specs.Pads.{first_synchroniser}
use Rattle.pin_matrix.specs.Pins.{merged}
use Rattle.pin_matrix.specs.declared.machine.MachineSetup.{MachineSetup}
use Rattle.pio_encode.specs.Word.{wait_at, in_at, push_or_pull_at, mov_at, irq_at, set_at, act_of, side_of, delay_of, reading_of}
use Rattle.sm_registers.specs.Effects.{jmp_effect, wait_effect, in_effect, out_effect, push_effect, pull_effect, mov_effect, irq_effect, set_effect, effect_of}
use Rattle.sm_registers.specs.State.{settled_ports}
use Rattle.sm_registers.specs.Tick.{after_effect, tick_delay, tick_by, tick_word, tick_of}
use Rattle.dreq_pacing.specs.declared.line.LineAct.TheVariants.{Pin, Tx, Feed}
use Rattle.dreq_pacing.specs.Ports.{due_in, transfers_after, acts_in}
use Rattle.block_core.specs.Block.{Run, stepped, next}
use Rattle.block_core.specs.Hosted.{hosted_next, hosted_at}
use Rattle.block_core.specs.Shown.{requests_of}
use Rattle.block_core.specs.Slots.{first_slot, acted, settled_slot}
use Rattle.block_core.specs.Stirring.{moves_on, stirs_in, stirring}

-- machine 0 with a tick in each clock, and with all else at its default
abbrev pub plain : MachineSetup
plain = record {
  id = 0;
  start = 0;
  x = 0;
  y = 0;
  isr = 0;
  osr = 0;
  isr_count = 0;
  osr_count = 32;
  pending = None;
  int = 1;
  frac = 0;
  side_rule = record { bits = 0; opt = false; pindirs = false; fits = omega arith };
  wrap_bottom = 0;
  wrap_top = 31;
  in_base = 0;
  jmp_pin = 0;
  out = record { base = 0; count = 0; base_is_a_pin = omega arith; count_fits = omega arith };
  set = record { base = 0; count = 5; base_is_a_pin = omega arith; count_fits = omega arith };
  side = record { base = 0; count = 0; base_is_a_pin = omega arith; count_fits = omega arith };
  in_right = true;
  out_right = true;
  autopush = false;
  autopull = false;
  push_threshold = 32;
  pull_threshold = 32;
  join_tx = false;
  join_rx = false;
  status_rx = false;
  status_n = 0;
  id_in_block = omega arith;
  start_in_memory = omega arith;
  isr_has_bits = omega arith;
  osr_has_bits = omega arith;
  divides = refl;
  wrap_bottom_in_memory = omega arith;
  wrap_top_in_memory = omega arith;
  in_base_is_a_pin = omega arith;
  jmp_pin_is_a_pin = omega arith;
  sets_five_at_most = omega arith;
  pushes_some = omega arith;
  pushes_a_word = omega arith;
  pulls_some = omega arith;
  pulls_a_word = omega arith;
  joins_one_way = refl;
  status_in_field = omega arith;
}

-- the same over two words, with OUT on pin 0 and autopull
abbrev pub pulling : MachineSetup
pulling = record plain {
  wrap_top = 1;
  wrap_top_in_memory = omega arith;
  autopull = true;
  out = record { base = 0; count = 1; base_is_a_pin = omega arith; count_fits = omega arith };
}

-- it alone, over this memory, with these outputs
abbrev pub run : (machine : MachineSetup) → (memory : List ℕ) → (out : ℕ) → Run
run machine memory out = record {
  memory = memory;
  clock = 0;
  state = record { machines = Some (first_slot machine) ∷ None ∷ None ∷ None ∷ []; levels = 0; directions = out; flags = 0; outside = 0 };
  synchroniser = first_synchroniser 0 0;
}

-- `wait 1 pin 0` alone: its first tick begins it, and then it stalls for ever
waits_alone : stirring (run plain (8352 ∷ []) 0) [] 12 ≡ 1
unfolding is_tick settled merged wait_at in_at push_or_pull_at mov_at irq_at set_at act_of side_of delay_of reading_of jmp_effect wait_effect in_effect out_effect push_effect pull_effect mov_effect irq_effect set_effect effect_of settled_ports after_effect tick_delay tick_by tick_word tick_of due_in transfers_after acts_in stepped next hosted_next hosted_at requests_of acted settled_slot moves_on stirs_in stirring
waits_alone = refl

-- a pin that it doesn't wait for: it rises in clock 7, so that clock and the next stir
pin_rises : stirring (run plain (8352 ∷ []) 0) (record { clock = 7; act = Pin 3 true } ∷ []) 12 ≡ 3
unfolding is_tick settled merged wait_at in_at push_or_pull_at mov_at irq_at set_at act_of side_of delay_of reading_of jmp_effect wait_effect in_effect out_effect push_effect pull_effect mov_effect irq_effect set_effect effect_of settled_ports after_effect tick_delay tick_by tick_word tick_of due_in transfers_after acts_in stepped next hosted_next hosted_at requests_of acted settled_slot moves_on stirs_in stirring
pin_rises = refl

-- the same in clock 0
pin_rises_at_once : stirring (run plain (8352 ∷ []) 0) (record { clock = 0; act = Pin 3 true } ∷ []) 12 ≡ 2
unfolding is_tick settled merged wait_at in_at push_or_pull_at mov_at irq_at set_at act_of side_of delay_of reading_of jmp_effect wait_effect in_effect out_effect push_effect pull_effect mov_effect irq_effect set_effect effect_of settled_ports after_effect tick_delay tick_by tick_word tick_of due_in transfers_after acts_in stepped next hosted_next hosted_at requests_of acted settled_slot moves_on stirs_in stirring
pin_rises_at_once = refl

-- a line of a machine that isn't there acts; a feed of one begins, and then never moves a word
nobody_there : stirring (run plain (8352 ∷ []) 0) (record { clock = 3; act = Tx 2 1 } ∷ record { clock = 5; act = Feed 1 1 (1 ∷ 2 ∷ []) } ∷ []) 12 ≡ 3
unfolding is_tick settled merged wait_at in_at push_or_pull_at mov_at irq_at set_at act_of side_of delay_of reading_of jmp_effect wait_effect in_effect out_effect push_effect pull_effect mov_effect irq_effect set_effect effect_of settled_ports after_effect tick_delay tick_by tick_word tick_of due_in transfers_after acts_in stepped next hosted_next hosted_at requests_of acted settled_slot moves_on stirs_in stirring
nobody_there = refl

-- `mov y, y [31]`, which begins in clock 0, with a feed of three words, which moves in 0, 5 and 10
fed : stirring (run plain (48962 ∷ []) 0) (record { clock = 0; act = Feed 0 5 (1 ∷ 2 ∷ 3 ∷ []) } ∷ []) 20 ≡ 3
unfolding is_tick settled merged wait_at in_at push_or_pull_at mov_at irq_at set_at act_of side_of delay_of reading_of jmp_effect wait_effect in_effect out_effect push_effect pull_effect mov_effect irq_effect set_effect effect_of settled_ports after_effect tick_delay tick_by tick_word tick_of due_in transfers_after acts_in stepped next hosted_next hosted_at requests_of acted settled_slot moves_on stirs_in stirring
fed = refl

-- `set x, 0 [31]`, `out pins, 1` with autopull, and a word in clock 10: the refill is inside the delay, in 11; the delay ends
-- with the OUT in 32, and SET begins in 33 and OUT in 65
refilled_in_delay : stirring (run pulling (65312 ∷ 24577 ∷ []) 0) (record { clock = 10; act = Tx 0 1 } ∷ []) 66 ≡ 6
unfolding is_tick settled merged wait_at in_at push_or_pull_at mov_at irq_at set_at act_of side_of delay_of reading_of jmp_effect wait_effect in_effect out_effect push_effect pull_effect mov_effect irq_effect set_effect effect_of settled_ports after_effect tick_delay tick_by tick_word tick_of due_in transfers_after acts_in stepped next hosted_next hosted_at requests_of acted settled_slot moves_on stirs_in stirring
refilled_in_delay = refl

-- the same with pin 0 an output, whose pad rises in 33 and is not seen before 35
pad_follows : stirring (run pulling (65312 ∷ 24577 ∷ []) 1) (record { clock = 10; act = Tx 0 1 } ∷ []) 66 ≡ 7
unfolding is_tick settled merged wait_at in_at push_or_pull_at mov_at irq_at set_at act_of side_of delay_of reading_of jmp_effect wait_effect in_effect out_effect push_effect pull_effect mov_effect irq_effect set_effect effect_of settled_ports after_effect tick_delay tick_by tick_word tick_of due_in transfers_after acts_in stepped next hosted_next hosted_at requests_of acted settled_slot moves_on stirs_in stirring
pad_follows = refl
