-- Rows of what is inside a block, worked by hand from the datasheet: the definitions compute to them.
use Rattle.std.proofs.Common.{◌≡◌, ℕ, ◌^◌, true, false, Option, Some, None, List, [], ◌∷◌, refl, arith}
use Rattle.clock_divider.specs.Ticks.{is_tick}
use Rattle.fifo_pair.specs.Fifos.{settled}
use Rattle.pin_matrix.specs.Pads.{first_synchroniser}
use Rattle.pin_matrix.specs.Pins.{merged}
use Rattle.pio_encode.specs.Word.{wait_at, in_at, push_or_pull_at, mov_at, irq_at, set_at, act_of, side_of, delay_of, reading_of}
use Rattle.sm_registers.specs.Effects.{jmp_effect, wait_effect, in_effect, out_effect, push_effect, pull_effect, mov_effect, irq_effect, set_effect, effect_of}
use Rattle.sm_registers.specs.State.{settled_ports}
use Rattle.sm_registers.specs.Tick.{after_effect, tick_delay, tick_by, tick_word, tick_of}
use Rattle.dreq_pacing.specs.declared.line.LineAct.TheVariants.{Pin, Tx, Disable, Enable}
use Rattle.dreq_pacing.specs.declared.line.Line.{Line}
use Rattle.dreq_pacing.specs.Ports.{due_in, transfers_after, acts_in}
use Rattle.block_core.specs.declared.inside.MachineInside.{MachineInside}
use Rattle.block_core.specs.Block.{Run, stepped, next}
use Rattle.block_core.specs.Hosted.{hosted_next, hosted_at}
use Rattle.block_core.specs.Inside.{inside_of, inside_at, machine_inside}
use Rattle.block_core.specs.Leaps.{leapt}
use Rattle.block_core.specs.Shown.{requests_of, sample_of}
use Rattle.block_core.specs.Slots.{acted, settled_slot}
use Rattle.block_core.proofs.StirRows.{plain, pulling, run}

-- machine 0 alone
abbrev alone : MachineInside → List (Option MachineInside)
alone m = Some m ∷ None ∷ None ∷ None ∷ []

-- it at the start of an instruction, with all registers 0 and the OSR empty
abbrev at_start : (pc instruction : ℕ) → MachineInside
at_start pc instruction = record {
  pc = pc;
  instruction = instruction;
  x = 0;
  y = 0;
  isr = 0;
  osr = 0;
  isr_count = 0;
  osr_count = 32;
  waits = false;
  enabled = true;
}

-- `pull block` and `set y, 5`, with a word for TX in clock 3
abbrev pull_run : Run
pull_run = run plain (32928 ∷ 57413 ∷ []) 0

abbrev word_in_3 : List Line
word_in_3 = record { clock = 3; act = Tx 0 7 } ∷ []

-- the machines after a clock
abbrev machines_at : Run → List Line → ℕ → List (Option MachineInside)
machines_at start lines clock = (inside_at start lines clock).machines

-- TX is empty in clock 0: the PULL stalls (section 3.4.7)
pull_waits : machines_at pull_run word_in_3 0 ≡ alone (record (at_start 0 32928) { waits = true })
unfolding is_tick settled merged wait_at in_at push_or_pull_at mov_at irq_at set_at act_of side_of delay_of reading_of jmp_effect wait_effect in_effect out_effect push_effect pull_effect mov_effect irq_effect set_effect effect_of settled_ports after_effect tick_delay tick_by tick_word tick_of due_in transfers_after acts_in stepped next hosted_next hosted_at requests_of sample_of acted settled_slot inside_of machine_inside
pull_waits = refl

-- the word of clock 3 comes in at its end
pull_waits_on : machines_at pull_run word_in_3 3 ≡ alone (record (at_start 0 32928) { waits = true })
unfolding is_tick settled merged wait_at in_at push_or_pull_at mov_at irq_at set_at act_of side_of delay_of reading_of jmp_effect wait_effect in_effect out_effect push_effect pull_effect mov_effect irq_effect set_effect effect_of settled_ports after_effect tick_delay tick_by tick_word tick_of due_in transfers_after acts_in stepped next hosted_next hosted_at requests_of sample_of acted settled_slot inside_of machine_inside
pull_waits_on = refl

-- in clock 4 the PULL takes it: the OSR is full, and the next instruction has not begun
pull_finishes : machines_at pull_run word_in_3 4 ≡ alone (record (at_start 1 57413) { osr = 7; osr_count = 0 })
unfolding is_tick settled merged wait_at in_at push_or_pull_at mov_at irq_at set_at act_of side_of delay_of reading_of jmp_effect wait_effect in_effect out_effect push_effect pull_effect mov_effect irq_effect set_effect effect_of settled_ports after_effect tick_delay tick_by tick_word tick_of due_in transfers_after acts_in stepped next hosted_next hosted_at requests_of sample_of acted settled_slot inside_of machine_inside
pull_finishes = refl

-- `set x, 0 [31]` and `out pins, 1` with autopull, with a word for TX in clock 10
abbrev delay_run : Run
delay_run = run pulling (65312 ∷ 24577 ∷ []) 0

abbrev word_in_10 : List Line
word_in_10 = record { clock = 10; act = Tx 0 5 } ∷ []

-- SET has finished in clock 0: in its delay PC is that of OUT, which has not begun
delay_begins : machines_at delay_run word_in_10 0 ≡ alone (at_start 1 24577)
unfolding is_tick settled merged wait_at in_at push_or_pull_at mov_at irq_at set_at act_of side_of delay_of reading_of jmp_effect wait_effect in_effect out_effect push_effect pull_effect mov_effect irq_effect set_effect effect_of settled_ports after_effect tick_delay tick_by tick_word tick_of due_in transfers_after acts_in stepped next hosted_next hosted_at requests_of sample_of acted settled_slot inside_of machine_inside
delay_begins = refl

-- the word comes in at the end of clock 10
delay_goes_on : machines_at delay_run word_in_10 10 ≡ alone (at_start 1 24577)
unfolding is_tick settled merged wait_at in_at push_or_pull_at mov_at irq_at set_at act_of side_of delay_of reading_of jmp_effect wait_effect in_effect out_effect push_effect pull_effect mov_effect irq_effect set_effect effect_of settled_ports after_effect tick_delay tick_by tick_word tick_of due_in transfers_after acts_in stepped next hosted_next hosted_at requests_of sample_of acted settled_slot inside_of machine_inside
delay_goes_on = refl

-- the refill is in clock 11, within the delay (section 3.5.4)
refilled_in_a_delay : machines_at delay_run word_in_10 11 ≡ alone (record (at_start 1 24577) { osr = 5; osr_count = 0 })
unfolding is_tick settled merged wait_at in_at push_or_pull_at mov_at irq_at set_at act_of side_of delay_of reading_of jmp_effect wait_effect in_effect out_effect push_effect pull_effect mov_effect irq_effect set_effect effect_of settled_ports after_effect tick_delay tick_by tick_word tick_of due_in transfers_after acts_in stepped next hosted_next hosted_at requests_of sample_of acted settled_slot inside_of machine_inside
refilled_in_a_delay = refl

-- the delay is over with clock 31, and in 32 OUT shifts one bit out to the right and wraps
shifted_after_the_delay : machines_at delay_run word_in_10 32 ≡ alone (record (at_start 0 65312) { osr = 2; osr_count = 1 })
unfolding is_tick settled merged wait_at in_at push_or_pull_at mov_at irq_at set_at act_of side_of delay_of reading_of jmp_effect wait_effect in_effect out_effect push_effect pull_effect mov_effect irq_effect set_effect effect_of settled_ports after_effect tick_delay tick_by tick_word tick_of due_in transfers_after acts_in stepped next hosted_next hosted_at requests_of sample_of acted settled_slot inside_of machine_inside
shifted_after_the_delay = refl

-- without the word: in the delay's last clock nothing waits
no_waiting_in_a_delay : machines_at delay_run [] 31 ≡ alone (at_start 1 24577)
unfolding is_tick settled merged wait_at in_at push_or_pull_at mov_at irq_at set_at act_of side_of delay_of reading_of jmp_effect wait_effect in_effect out_effect push_effect pull_effect mov_effect irq_effect set_effect effect_of settled_ports after_effect tick_delay tick_by tick_word tick_of due_in transfers_after acts_in stepped next hosted_next hosted_at requests_of sample_of acted settled_slot inside_of machine_inside
no_waiting_in_a_delay = refl

-- and in the next one OUT stalls on the empty OSR
waits_after_the_delay : machines_at delay_run [] 32 ≡ alone (record (at_start 1 24577) { waits = true })
unfolding is_tick settled merged wait_at in_at push_or_pull_at mov_at irq_at set_at act_of side_of delay_of reading_of jmp_effect wait_effect in_effect out_effect push_effect pull_effect mov_effect irq_effect set_effect effect_of settled_ports after_effect tick_delay tick_by tick_word tick_of due_in transfers_after acts_in stepped next hosted_next hosted_at requests_of sample_of acted settled_slot inside_of machine_inside
waits_after_the_delay = refl

-- `mov exec, x` and `set pins, 1`, where X is this word
abbrev exec_run : (word : ℕ) → Run
exec_run word = run (record plain { x = word }) (41089 ∷ 57345 ∷ []) 0

-- X is `set y, 5`: it is pending after clock 0, and PC has moved on (section 3.4.8)
pending : machines_at (exec_run 57413) [] 0 ≡ alone (record (at_start 1 57413) { x = 57413 })
unfolding is_tick settled merged wait_at in_at push_or_pull_at mov_at irq_at set_at act_of side_of delay_of reading_of jmp_effect wait_effect in_effect out_effect push_effect pull_effect mov_effect irq_effect set_effect effect_of settled_ports after_effect tick_delay tick_by tick_word tick_of due_in transfers_after acts_in stepped next hosted_next hosted_at requests_of sample_of acted settled_slot inside_of machine_inside
pending = refl

-- it runs in clock 1, and leaves PC: the word is that of the memory
pending_is_done : machines_at (exec_run 57413) [] 1 ≡ alone (record (at_start 1 57345) { x = 57413; y = 5 })
unfolding is_tick settled merged wait_at in_at push_or_pull_at mov_at irq_at set_at act_of side_of delay_of reading_of jmp_effect wait_effect in_effect out_effect push_effect pull_effect mov_effect irq_effect set_effect effect_of settled_ports after_effect tick_delay tick_by tick_word tick_of due_in transfers_after acts_in stepped next hosted_next hosted_at requests_of sample_of acted settled_slot inside_of machine_inside
pending_is_done = refl

-- X is `pull block`: the pending word itself waits
pending_waits : machines_at (exec_run 32928) [] 1 ≡ alone (record (at_start 1 32928) { x = 32928; waits = true })
unfolding is_tick settled merged wait_at in_at push_or_pull_at mov_at irq_at set_at act_of side_of delay_of reading_of jmp_effect wait_effect in_effect out_effect push_effect pull_effect mov_effect irq_effect set_effect effect_of settled_ports after_effect tick_delay tick_by tick_word tick_of due_in transfers_after acts_in stepped next hosted_next hosted_at requests_of sample_of acted settled_slot inside_of machine_inside
pending_waits = refl

-- a line that disables the machine in a clock, before its tick
abbrev disabled_in : ℕ → List Line
disabled_in clock = record { clock = clock; act = Disable 0 } ∷ []

-- a machine that is disabled in clock 0 begins nothing
disabled : machines_at pull_run (disabled_in 0) 5 ≡ alone (record (at_start 0 32928) { enabled = false })
unfolding is_tick settled merged wait_at in_at push_or_pull_at mov_at irq_at set_at act_of side_of delay_of reading_of jmp_effect wait_effect in_effect out_effect push_effect pull_effect mov_effect irq_effect set_effect effect_of settled_ports after_effect tick_delay tick_by tick_word tick_of due_in transfers_after acts_in stepped next hosted_next hosted_at requests_of sample_of acted settled_slot inside_of machine_inside
disabled = refl

-- one that is disabled while it waits has begun, and goes on waiting
disabled_while_it_waits : machines_at pull_run (disabled_in 2) 5 ≡ alone (record (at_start 0 32928) { waits = true; enabled = false })
unfolding is_tick settled merged wait_at in_at push_or_pull_at mov_at irq_at set_at act_of side_of delay_of reading_of jmp_effect wait_effect in_effect out_effect push_effect pull_effect mov_effect irq_effect set_effect effect_of settled_ports after_effect tick_delay tick_by tick_word tick_of due_in transfers_after acts_in stepped next hosted_next hosted_at requests_of sample_of acted settled_slot inside_of machine_inside
disabled_while_it_waits = refl

-- enabled again in clock 6, beside a word in 3, it takes the word in 6
enabled_again : machines_at pull_run (record { clock = 2; act = Disable 0 } ∷ record { clock = 3; act = Tx 0 7 } ∷ record { clock = 6; act = Enable 0 } ∷ []) 6 ≡ alone (record (at_start 1 57413) { osr = 7; osr_count = 0 })
unfolding is_tick settled merged wait_at in_at push_or_pull_at mov_at irq_at set_at act_of side_of delay_of reading_of jmp_effect wait_effect in_effect out_effect push_effect pull_effect mov_effect irq_effect set_effect effect_of settled_ports after_effect tick_delay tick_by tick_word tick_of due_in transfers_after acts_in stepped next hosted_next hosted_at requests_of sample_of acted settled_slot inside_of machine_inside
enabled_again = refl

-- `wait 1 pin 0` and `set y, 5`, with these pins that bypass the synchroniser, with a pin 0 that rises in clock 2
abbrev wait_run : (bypass : ℕ) → Run
wait_run bypass = record (run plain (8352 ∷ 57413 ∷ []) 0) { synchroniser = first_synchroniser 0 bypass }

abbrev rises_in_2 : List Line
rises_in_2 = record { clock = 2; act = Pin 0 true } ∷ []

-- in clock 1 the pad is low
low_before : (inside_at (wait_run 0) rises_in_2 1).pads ≡ 0
unfolding is_tick settled merged wait_at in_at push_or_pull_at mov_at irq_at set_at act_of side_of delay_of reading_of jmp_effect wait_effect in_effect out_effect push_effect pull_effect mov_effect irq_effect set_effect effect_of settled_ports after_effect tick_delay tick_by tick_word tick_of due_in transfers_after acts_in stepped next hosted_next hosted_at requests_of sample_of acted settled_slot inside_of machine_inside
low_before = refl

-- in clock 2 it is high, whatever a machine sees
high_at_once : (inside_at (wait_run 0) rises_in_2 2).pads ≡ 1
unfolding is_tick settled merged wait_at in_at push_or_pull_at mov_at irq_at set_at act_of side_of delay_of reading_of jmp_effect wait_effect in_effect out_effect push_effect pull_effect mov_effect irq_effect set_effect effect_of settled_ports after_effect tick_delay tick_by tick_word tick_of due_in transfers_after acts_in stepped next hosted_next hosted_at requests_of sample_of acted settled_slot inside_of machine_inside
high_at_once = refl

-- which the machine doesn't see yet (section 3.5.6.3), ..
not_seen : machines_at (wait_run 0) rises_in_2 3 ≡ alone (record (at_start 0 8352) { waits = true })
unfolding is_tick settled merged wait_at in_at push_or_pull_at mov_at irq_at set_at act_of side_of delay_of reading_of jmp_effect wait_effect in_effect out_effect push_effect pull_effect mov_effect irq_effect set_effect effect_of settled_ports after_effect tick_delay tick_by tick_word tick_of due_in transfers_after acts_in stepped next hosted_next hosted_at requests_of sample_of acted settled_slot inside_of machine_inside
not_seen = refl

-- .. but in clock 4
seen_two_later : machines_at (wait_run 0) rises_in_2 4 ≡ alone (at_start 1 57413)
unfolding is_tick settled merged wait_at in_at push_or_pull_at mov_at irq_at set_at act_of side_of delay_of reading_of jmp_effect wait_effect in_effect out_effect push_effect pull_effect mov_effect irq_effect set_effect effect_of settled_ports after_effect tick_delay tick_by tick_word tick_of due_in transfers_after acts_in stepped next hosted_next hosted_at requests_of sample_of acted settled_slot inside_of machine_inside
seen_two_later = refl

-- a bypassed pad is the same
bypassed_high : (inside_at (wait_run 1) rises_in_2 2).pads ≡ 1
unfolding is_tick settled merged wait_at in_at push_or_pull_at mov_at irq_at set_at act_of side_of delay_of reading_of jmp_effect wait_effect in_effect out_effect push_effect pull_effect mov_effect irq_effect set_effect effect_of settled_ports after_effect tick_delay tick_by tick_word tick_of due_in transfers_after acts_in stepped next hosted_next hosted_at requests_of sample_of acted settled_slot inside_of machine_inside
bypassed_high = refl

-- and is seen at once
bypassed_seen : machines_at (wait_run 1) rises_in_2 2 ≡ alone (at_start 1 57413)
unfolding is_tick settled merged wait_at in_at push_or_pull_at mov_at irq_at set_at act_of side_of delay_of reading_of jmp_effect wait_effect in_effect out_effect push_effect pull_effect mov_effect irq_effect set_effect effect_of settled_ports after_effect tick_delay tick_by tick_word tick_of due_in transfers_after acts_in stepped next hosted_next hosted_at requests_of sample_of acted settled_slot inside_of machine_inside
bypassed_seen = refl

-- 10^12 clocks after clock 0, in none of which anything stirs, the machine waits as after clock 0
after_a_leap : (inside_of (leapt (10 ^ 12) (hosted_at (wait_run 0) [] 1).run)).machines ≡ alone (record (at_start 0 8352) { waits = true })
unfolding is_tick settled merged wait_at in_at push_or_pull_at mov_at irq_at set_at act_of side_of delay_of reading_of jmp_effect wait_effect in_effect out_effect push_effect pull_effect mov_effect irq_effect set_effect effect_of settled_ports after_effect tick_delay tick_by tick_word tick_of due_in transfers_after acts_in stepped next hosted_next hosted_at requests_of sample_of acted settled_slot inside_of machine_inside leapt
after_a_leap = refl

-- `set pins, 1` alone, again and again, with these directions
abbrev set_run : (out : ℕ) → Run
set_run out = run (record plain { wrap_top = 0; wrap_top_in_memory = omega arith }) (57345 ∷ []) out

-- pin 0 is an output: after clock 0 its level is high, ..
level_is_new : (inside_at (set_run 1) [] 0).sample.level ≡ 1
unfolding is_tick settled merged wait_at in_at push_or_pull_at mov_at irq_at set_at act_of side_of delay_of reading_of jmp_effect wait_effect in_effect out_effect push_effect pull_effect mov_effect irq_effect set_effect effect_of settled_ports after_effect tick_delay tick_by tick_word tick_of due_in transfers_after acts_in stepped next hosted_next hosted_at requests_of sample_of acted settled_slot inside_of machine_inside
level_is_new = refl

-- .. and the pad of clock 0 was low, as the level at its start
pad_is_old : (inside_at (set_run 1) [] 0).pads ≡ 0
unfolding is_tick settled merged wait_at in_at push_or_pull_at mov_at irq_at set_at act_of side_of delay_of reading_of jmp_effect wait_effect in_effect out_effect push_effect pull_effect mov_effect irq_effect set_effect effect_of settled_ports after_effect tick_delay tick_by tick_word tick_of due_in transfers_after acts_in stepped next hosted_next hosted_at requests_of sample_of acted settled_slot inside_of machine_inside
pad_is_old = refl

-- so the pad is high in clock 1
pad_follows_level : (inside_at (set_run 1) [] 1).pads ≡ 1
unfolding is_tick settled merged wait_at in_at push_or_pull_at mov_at irq_at set_at act_of side_of delay_of reading_of jmp_effect wait_effect in_effect out_effect push_effect pull_effect mov_effect irq_effect set_effect effect_of settled_ports after_effect tick_delay tick_by tick_word tick_of due_in transfers_after acts_in stepped next hosted_next hosted_at requests_of sample_of acted settled_slot inside_of machine_inside
pad_follows_level = refl

-- it is an input: the pad is the outside's, which is low
inputs_follow_the_outside : (inside_at (set_run 0) [] 1).pads ≡ 0
unfolding is_tick settled merged wait_at in_at push_or_pull_at mov_at irq_at set_at act_of side_of delay_of reading_of jmp_effect wait_effect in_effect out_effect push_effect pull_effect mov_effect irq_effect set_effect effect_of settled_ports after_effect tick_delay tick_by tick_word tick_of due_in transfers_after acts_in stepped next hosted_next hosted_at requests_of sample_of acted settled_slot inside_of machine_inside
inputs_follow_the_outside = refl

-- it is an output, and the outside drives it low in clock 2: the pad is the block's
outputs_leave_the_outside : (inside_at (set_run 1) (record { clock = 2; act = Pin 0 false } ∷ []) 2).pads ≡ 1
unfolding is_tick settled merged wait_at in_at push_or_pull_at mov_at irq_at set_at act_of side_of delay_of reading_of jmp_effect wait_effect in_effect out_effect push_effect pull_effect mov_effect irq_effect set_effect effect_of settled_ports after_effect tick_delay tick_by tick_word tick_of due_in transfers_after acts_in stepped next hosted_next hosted_at requests_of sample_of acted settled_slot inside_of machine_inside
outputs_leave_the_outside = refl
