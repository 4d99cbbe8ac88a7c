-- Worked rows: what machines share, worked out by hand.
use Rattle.std.proofs.Common.{◌≡◌, ℕ, true, false, Some, None, List, [], ◌∷◌, ◌++◌, codes, replicate, refl, arith}
use Rattle.pio_encode.specs.Word.{act_of, wait_at, in_at, push_or_pull_at, mov_at, irq_at, set_at}
use Rattle.pin_matrix.specs.declared.mapping.Mapping.{Mapping}
use Rattle.pin_matrix.specs.declared.machine.MachineSetup.{MachineSetup}
use Rattle.pin_matrix.specs.declared.setup.Setup.{Setup}
use Rattle.block_shares.specs.Reach.{gathered, reach_in, any_wild}
use Rattle.block_shares.specs.Shares.{touched_by, touches_of, shares_of}
use Rattle.block_shares.specs.Report.{pins_text, flags_text, share_line, alone_line, machine_text}

-- no pin
abbrev none : Mapping
none = record { base = 0; count = 0; base_is_a_pin = omega arith; count_fits = omega arith }

-- pin 0
abbrev pin_0 : Mapping
pin_0 = record { base = 0; count = 1; base_is_a_pin = omega arith; count_fits = omega arith }

-- pin 1
abbrev pin_1 : Mapping
pin_1 = record { base = 1; count = 1; base_is_a_pin = omega arith; count_fits = omega arith }

-- pin 3
abbrev pin_3 : Mapping
pin_3 = record { base = 3; count = 1; base_is_a_pin = omega arith; count_fits = omega arith }

-- pin 4
abbrev pin_4 : Mapping
pin_4 = record { base = 4; count = 1; base_is_a_pin = omega arith; count_fits = omega arith }

-- machine 1: `set pins, 0` at address 0, on pin 4
abbrev low_4 : MachineSetup
low_4 = record {
  id = 1;
  start = 0;
  x = 0;
  y = 0;
  isr = 0;
  osr = 0;
  isr_count = 0;
  osr_count = 32;
  pending = None;
  int = 1;
  frac = 0;
  side_rule = record { bits = 0; opt = false; pindirs = false; fits = omega arith };
  wrap_bottom = 0;
  wrap_top = 0;
  in_base = 0;
  jmp_pin = 0;
  out = none;
  set = pin_4;
  side = none;
  in_right = true;
  out_right = true;
  autopush = false;
  autopull = false;
  push_threshold = 32;
  pull_threshold = 32;
  join_tx = false;
  join_rx = false;
  status_rx = false;
  status_n = 0;
  id_in_block = omega arith;
  start_in_memory = omega arith;
  isr_has_bits = omega arith;
  osr_has_bits = omega arith;
  divides = refl;
  wrap_bottom_in_memory = omega arith;
  wrap_top_in_memory = omega arith;
  in_base_is_a_pin = omega arith;
  jmp_pin_is_a_pin = omega arith;
  sets_five_at_most = omega arith;
  pushes_some = omega arith;
  pushes_a_word = omega arith;
  pulls_some = omega arith;
  pulls_a_word = omega arith;
  joins_one_way = refl;
  status_in_field = omega arith;
}

-- machine 3: `set pins, 1` at address 1, on pin 4
abbrev high_4 : MachineSetup
high_4 = record {
  id = 3;
  start = 1;
  x = 0;
  y = 0;
  isr = 0;
  osr = 0;
  isr_count = 0;
  osr_count = 32;
  pending = None;
  int = 1;
  frac = 0;
  side_rule = record { bits = 0; opt = false; pindirs = false; fits = omega arith };
  wrap_bottom = 1;
  wrap_top = 1;
  in_base = 0;
  jmp_pin = 0;
  out = none;
  set = pin_4;
  side = none;
  in_right = true;
  out_right = true;
  autopush = false;
  autopull = false;
  push_threshold = 32;
  pull_threshold = 32;
  join_tx = false;
  join_rx = false;
  status_rx = false;
  status_n = 0;
  id_in_block = omega arith;
  start_in_memory = omega arith;
  isr_has_bits = omega arith;
  osr_has_bits = omega arith;
  divides = refl;
  wrap_bottom_in_memory = omega arith;
  wrap_top_in_memory = omega arith;
  in_base_is_a_pin = omega arith;
  jmp_pin_is_a_pin = omega arith;
  sets_five_at_most = omega arith;
  pushes_some = omega arith;
  pushes_a_word = omega arith;
  pulls_some = omega arith;
  pulls_a_word = omega arith;
  joins_one_way = refl;
  status_in_field = omega arith;
}

-- a block with these words and machines
abbrev block_of_two : Setup
block_of_two = record {
  memory = 0xe000 ∷ 0xe001 ∷ [] ++ replicate 30 0;
  machines = None ∷ Some low_4 ∷ None ∷ Some high_4 ∷ [];
  high = 0;
  level = 0;
  out = 0;
  bypass = 0;
  spans = [];
  at_their_places = refl;
}

-- what each of the others is felt of by machine m, in order of their numbers
abbrev felt_by : Setup → ℕ → List (ℕ × ℕ)
felt_by s m = shares_of s m 0 ∷ shares_of s m 1 ∷ shares_of s m 2 ∷ shares_of s m 3 ∷ []

-- both write pin 4
one_of_two : felt_by block_of_two 1 ≡ (0, 0) ∷ (0x10, 0) ∷ (0, 0) ∷ (0x10, 0) ∷ []
unfolding gathered reach_in any_wild touched_by act_of wait_at in_at push_or_pull_at mov_at irq_at set_at
one_of_two = refl

other_of_two : machine_text block_of_two 1 ≡ share_line 1 3 (0x10, 0)
unfolding gathered reach_in any_wild touched_by act_of wait_at in_at push_or_pull_at mov_at irq_at set_at
other_of_two = refl

none_of_two : machine_text block_of_two 0 ≡ []
none_of_two = refl

pins_of_two : pins_text 0x10 ≡ codes "00000010"
pins_of_two = refl

flags_of_two : flags_text 0 ≡ codes "00"
flags_of_two = refl

-- machine 0 at 0: `set pins, 1`, `irq nowait 0`, `set pins, 0` on pin 0
abbrev sends : MachineSetup
sends = record {
  id = 0;
  start = 0;
  x = 0;
  y = 0;
  isr = 0;
  osr = 0;
  isr_count = 0;
  osr_count = 32;
  pending = None;
  int = 1;
  frac = 0;
  side_rule = record { bits = 0; opt = false; pindirs = false; fits = omega arith };
  wrap_bottom = 0;
  wrap_top = 2;
  in_base = 0;
  jmp_pin = 0;
  out = none;
  set = pin_0;
  side = none;
  in_right = true;
  out_right = true;
  autopush = false;
  autopull = false;
  push_threshold = 32;
  pull_threshold = 32;
  join_tx = false;
  join_rx = false;
  status_rx = false;
  status_n = 0;
  id_in_block = omega arith;
  start_in_memory = omega arith;
  isr_has_bits = omega arith;
  osr_has_bits = omega arith;
  divides = refl;
  wrap_bottom_in_memory = omega arith;
  wrap_top_in_memory = omega arith;
  in_base_is_a_pin = omega arith;
  jmp_pin_is_a_pin = omega arith;
  sets_five_at_most = omega arith;
  pushes_some = omega arith;
  pushes_a_word = omega arith;
  pulls_some = omega arith;
  pulls_a_word = omega arith;
  joins_one_way = refl;
  status_in_field = omega arith;
}

-- machine 1 at 3: `out pins, 1` on pin 1, with autopull
abbrev shifts : MachineSetup
shifts = record {
  id = 1;
  start = 3;
  x = 0;
  y = 0;
  isr = 0;
  osr = 0;
  isr_count = 0;
  osr_count = 32;
  pending = None;
  int = 1;
  frac = 0;
  side_rule = record { bits = 0; opt = false; pindirs = false; fits = omega arith };
  wrap_bottom = 3;
  wrap_top = 3;
  in_base = 0;
  jmp_pin = 0;
  out = pin_1;
  set = none;
  side = none;
  in_right = true;
  out_right = true;
  autopush = false;
  autopull = true;
  push_threshold = 32;
  pull_threshold = 32;
  join_tx = false;
  join_rx = false;
  status_rx = false;
  status_n = 0;
  id_in_block = omega arith;
  start_in_memory = omega arith;
  isr_has_bits = omega arith;
  osr_has_bits = omega arith;
  divides = refl;
  wrap_bottom_in_memory = omega arith;
  wrap_top_in_memory = omega arith;
  in_base_is_a_pin = omega arith;
  jmp_pin_is_a_pin = omega arith;
  sets_five_at_most = omega arith;
  pushes_some = omega arith;
  pushes_a_word = omega arith;
  pulls_some = omega arith;
  pulls_a_word = omega arith;
  joins_one_way = refl;
  status_in_field = omega arith;
}

-- machine 2 at 4: `wait 1 pin 0`, `in pins, 8`, `wait 0 pin 0` from pin 2 on
abbrev samples : MachineSetup
samples = record {
  id = 2;
  start = 4;
  x = 0;
  y = 0;
  isr = 0;
  osr = 0;
  isr_count = 0;
  osr_count = 32;
  pending = None;
  int = 1;
  frac = 0;
  side_rule = record { bits = 0; opt = false; pindirs = false; fits = omega arith };
  wrap_bottom = 4;
  wrap_top = 6;
  in_base = 2;
  jmp_pin = 0;
  out = none;
  set = none;
  side = none;
  in_right = true;
  out_right = true;
  autopush = true;
  autopull = false;
  push_threshold = 32;
  pull_threshold = 32;
  join_tx = false;
  join_rx = false;
  status_rx = false;
  status_n = 0;
  id_in_block = omega arith;
  start_in_memory = omega arith;
  isr_has_bits = omega arith;
  osr_has_bits = omega arith;
  divides = refl;
  wrap_bottom_in_memory = omega arith;
  wrap_top_in_memory = omega arith;
  in_base_is_a_pin = omega arith;
  jmp_pin_is_a_pin = omega arith;
  sets_five_at_most = omega arith;
  pushes_some = omega arith;
  pushes_a_word = omega arith;
  pulls_some = omega arith;
  pulls_a_word = omega arith;
  joins_one_way = refl;
  status_in_field = omega arith;
}

-- machine 3 at 7: `wait 1 irq 0`, `set pins, 1`, `set pins, 0` on pin 3
abbrev answers : MachineSetup
answers = record {
  id = 3;
  start = 7;
  x = 0;
  y = 0;
  isr = 0;
  osr = 0;
  isr_count = 0;
  osr_count = 32;
  pending = None;
  int = 1;
  frac = 0;
  side_rule = record { bits = 0; opt = false; pindirs = false; fits = omega arith };
  wrap_bottom = 7;
  wrap_top = 9;
  in_base = 0;
  jmp_pin = 0;
  out = none;
  set = pin_3;
  side = none;
  in_right = true;
  out_right = true;
  autopush = false;
  autopull = false;
  push_threshold = 32;
  pull_threshold = 32;
  join_tx = false;
  join_rx = false;
  status_rx = false;
  status_n = 0;
  id_in_block = omega arith;
  start_in_memory = omega arith;
  isr_has_bits = omega arith;
  osr_has_bits = omega arith;
  divides = refl;
  wrap_bottom_in_memory = omega arith;
  wrap_top_in_memory = omega arith;
  in_base_is_a_pin = omega arith;
  jmp_pin_is_a_pin = omega arith;
  sets_five_at_most = omega arith;
  pushes_some = omega arith;
  pushes_a_word = omega arith;
  pulls_some = omega arith;
  pulls_a_word = omega arith;
  joins_one_way = refl;
  status_in_field = omega arith;
}

-- the block of the generated load
abbrev block_of_four : Setup
block_of_four = record {
  memory = 0xe001 ∷ 0xc000 ∷ 0xe000 ∷ 0x6001 ∷ 0x20a0 ∷ 0x4008 ∷ 0x2020 ∷ 0x20c0 ∷ 0xe001 ∷ 0xe000 ∷ [] ++ replicate 22 0;
  machines = Some sends ∷ Some shifts ∷ Some samples ∷ Some answers ∷ [];
  high = 0;
  level = 0;
  out = 0;
  bypass = 0;
  spans = [];
  at_their_places = refl;
}

-- machine 2 reads pin 2 by `wait`, and pins 2 to 9 by `in`
samples_touches : touches_of block_of_four 2 ≡ record { reach = 0x70; reads = 0x3fc; writes = 0; sees = 0; changes = 0 }
unfolding gathered reach_in any_wild touched_by act_of wait_at in_at push_or_pull_at mov_at irq_at set_at
samples_touches = refl

-- machine 3 waits for flag 0, and lowers it
answers_touches : touches_of block_of_four 3 ≡ record { reach = 0x380; reads = 0; writes = 8; sees = 1; changes = 1 }
unfolding gathered reach_in any_wild touched_by act_of wait_at in_at push_or_pull_at mov_at irq_at set_at
answers_touches = refl

-- machines 0 and 3 share flag 0; machine 3 writes one of the pins that machine 2 reads
sends_feels : machine_text block_of_four 0 ≡ share_line 0 3 (0, 1)
unfolding gathered reach_in any_wild touched_by act_of wait_at in_at push_or_pull_at mov_at irq_at set_at
sends_feels = refl

shifts_feels : machine_text block_of_four 1 ≡ alone_line 1
unfolding gathered reach_in any_wild touched_by act_of wait_at in_at push_or_pull_at mov_at irq_at set_at
shifts_feels = refl

samples_feels : machine_text block_of_four 2 ≡ share_line 2 3 (8, 0)
unfolding gathered reach_in any_wild touched_by act_of wait_at in_at push_or_pull_at mov_at irq_at set_at
samples_feels = refl

answers_feels : felt_by block_of_four 3 ≡ (0, 1) ∷ (0, 0) ∷ (0, 0) ∷ (8, 1) ∷ []
unfolding gathered reach_in any_wild touched_by act_of wait_at in_at push_or_pull_at mov_at irq_at set_at
answers_feels = refl

-- an `out pc` among the words that are reached: all is reached and felt
wild_touches : touches_of (record block_of_four { memory = 0xe001 ∷ 0x60a5 ∷ [] ++ replicate 30 0 }) 0 ≡ record { reach = 0xffffffff; reads = 0xffffffff; writes = 1; sees = 0xff; changes = 0xff }
unfolding gathered reach_in any_wild touched_by act_of wait_at in_at push_or_pull_at mov_at irq_at set_at
wild_touches = refl

-- `jmp $` reaches itself alone, and with a condition the next address too; `irq clear wait` changes its flag and doesn't wait for it;
-- `mov x, pins` reads all pins; `jmp pin` reads the jump pin
loop_reach : touches_of (record block_of_four { memory = 0x0000 ∷ [] ++ replicate 31 0xc001 }) 0 ≡ record { reach = 1; reads = 0; writes = 1; sees = 0; changes = 0 }
unfolding gathered reach_in any_wild touched_by act_of wait_at in_at push_or_pull_at mov_at irq_at set_at
loop_reach = refl

clear_touches : touches_of (record block_of_four { memory = 0x00c0 ∷ 0xc062 ∷ 0xa020 ∷ [] ++ replicate 29 0xc001 }) 0 ≡ record { reach = 7; reads = 0xffffffff; writes = 1; sees = 0; changes = 4 }
unfolding gathered reach_in any_wild touched_by act_of wait_at in_at push_or_pull_at mov_at irq_at set_at
clear_touches = refl

jump_touches : touches_of (record block_of_four { memory = 0x00c0 ∷ 0xc031 ∷ 0x0000 ∷ [] ++ replicate 29 0xc001 }) 0 ≡ record { reach = 7; reads = 1; writes = 1; sees = 2; changes = 2 }
unfolding gathered reach_in any_wild touched_by act_of wait_at in_at push_or_pull_at mov_at irq_at set_at
jump_touches = refl

-- machine 1 with a pending word: `wait 1 irq 5` waits for flag 5 and lowers it, and leaves the machine at its start
first_waits : touched_by block_of_four.memory (record shifts { pending = Some 0x20c5 }) ≡ record { reach = 8; reads = 0; writes = 2; sees = 0x20; changes = 0x20 }
unfolding gathered reach_in any_wild touched_by act_of wait_at in_at push_or_pull_at mov_at irq_at set_at
first_waits = refl

-- `jmp 3` brings it to its program, and the word at its start isn't reached
first_jumps : touched_by block_of_four.memory (record shifts { start = 9; pending = Some 3; start_in_memory = omega arith }) ≡ record { reach = 8; reads = 0; writes = 2; sees = 0; changes = 0 }
unfolding gathered reach_in any_wild touched_by act_of wait_at in_at push_or_pull_at mov_at irq_at set_at
first_jumps = refl

-- after `out pc, 32` it may be anywhere
first_wild : touched_by block_of_four.memory (record shifts { pending = Some 0x60a0 }) ≡ record { reach = 0xffffffff; reads = 0xffffffff; writes = 2; sees = 0xff; changes = 0xff }
unfolding gathered reach_in any_wild touched_by act_of wait_at in_at push_or_pull_at mov_at irq_at set_at
first_wild = refl
