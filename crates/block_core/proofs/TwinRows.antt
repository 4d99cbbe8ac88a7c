-- Rows of two blocks on one set of pins, worked by hand: the definitions compute to them.
use Rattle.std.proofs.Common.{◌≡◌, ℕ, Some, None, List, [], ◌∷◌, map, refl, arith}
use Rattle.clock_divider.specs.Ticks.{is_tick}
use Rattle.fifo_pair.specs.Fifos.{settled}
use Rattle.pin_matrix.specs.Pads.{first_synchroniser}
use Rattle.pin_matrix.specs.Pins.{merged}
use Rattle.pin_matrix.specs.declared.machine.MachineSetup.{MachineSetup}
use Rattle.pio_encode.specs.Word.{wait_at, in_at, push_or_pull_at, mov_at, irq_at, set_at, act_of, side_of, delay_of, reading_of}
use Rattle.sm_registers.specs.Effects.{jmp_effect, wait_effect, in_effect, out_effect, push_effect, pull_effect, mov_effect, irq_effect, set_effect, effect_of}
use Rattle.sm_registers.specs.State.{settled_ports}
use Rattle.sm_registers.specs.Tick.{after_effect, tick_delay, tick_by, tick_word, tick_of}
use Rattle.dreq_pacing.specs.declared.line.LineAct.TheVariants.{Tx}
use Rattle.dreq_pacing.specs.Ports.{due_in, transfers_after, acts_in}
use Rattle.block_core.specs.declared.sample.Sample.{Sample}
use Rattle.block_core.specs.Block.{BlockState, Run, stepped}
use Rattle.block_core.specs.HostedTwin.{hosted_twin_next, hosted_twin_at, twin_samples, twin_stirs_in, twin_stirring}
use Rattle.block_core.specs.Shown.{requests_of, sample_of}
use Rattle.block_core.specs.Slots.{first_slot, acted, settled_slot}
use Rattle.block_core.specs.Twin.{TwinRun, shared_pads}
use Rattle.block_core.proofs.StirRows.{plain}

-- `set pins, 1` on pin 0, forever
abbrev sets_pin_0 : MachineSetup
sets_pin_0 = record plain {
  wrap_top = 0;
  wrap_top_in_memory = omega arith;
  set = record { base = 0; count = 1; base_is_a_pin = omega arith; count_fits = omega arith };
  sets_five_at_most = omega arith;
}

-- `mov y, y`, forever
abbrev does_nothing : MachineSetup
does_nothing = record plain { wrap_top = 0; wrap_top_in_memory = omega arith }

-- `wait 1 pin N`, and then `set pins, 1` on this pin
abbrev waits : MachineSetup
waits = record plain { wrap_top = 1; wrap_top_in_memory = omega arith }

abbrev waits_and_sets_pin_1 : MachineSetup
waits_and_sets_pin_1 = record waits {
  set = record { base = 1; count = 1; base_is_a_pin = omega arith; count_fits = omega arith };
  sets_five_at_most = omega arith;
}

abbrev waits_and_sets_pin_2 : MachineSetup
waits_and_sets_pin_2 = record waits {
  set = record { base = 2; count = 1; base_is_a_pin = omega arith; count_fits = omega arith };
  sets_five_at_most = omega arith;
}

-- a block at the start: its machine 0, the directions, and the levels that the outside drives
abbrev state : MachineSetup → (directions outside : ℕ) → BlockState
state machine directions outside = record {
  machines = Some (first_slot machine) ∷ None ∷ None ∷ None ∷ [];
  levels = 0;
  directions = directions;
  flags = 0;
  outside = outside;
}

abbrev run : (memory : List ℕ) → BlockState → (pad bypass : ℕ) → Run
run memory b pad bypass = record { memory = memory; clock = 0; state = b; synchroniser = first_synchroniser pad bypass }

-- The first block sets its pin 0, for which the second waits before it sets its own pin 1.
abbrev waits_for_the_other : (bypass : ℕ) → TwinRun
waits_for_the_other bypass =
    let a = state sets_pin_0 1 0 in
    let b = state waits_and_sets_pin_1 2 0 in
    let pad = shared_pads 2 a b 0 in
    record { own = 2; first = run (57345 ∷ []) a pad 0; second = run (8352 ∷ 57345 ∷ []) b pad bypass }

-- The second block owns pin 1, which is an input in it and an output in the first, and which the outside of the first drives.
abbrev waits_for_the_outside : TwinRun
waits_for_the_outside =
    let a = state does_nothing 2 2 in
    let b = state waits_and_sets_pin_2 0 0 in
    let pad = shared_pads 2 a b 2 in
    record { own = 2; first = run (41026 ∷ []) a pad 0; second = run (8353 ∷ 57345 ∷ []) b pad 0 }

-- Both set pin 0, the second on no pad.
abbrev both_set : TwinRun
both_set =
    let a = state sets_pin_0 0 0 in
    record { own = 0; first = run (57345 ∷ []) a 0 0; second = run (57345 ∷ []) a 0 0 }

abbrev levels : List (Sample × Sample) → List (ℕ × ℕ)
levels samples = map (λ (s : Sample × Sample). (s.0.level, s.1.level)) samples

abbrev tx_levels : List (Sample × Sample) → List (List ℕ × List ℕ)
tx_levels samples = map (λ (s : Sample × Sample). (s.0.tx, s.1.tx)) samples

-- The pad rises in clock 1 and is seen in clock 3, after the synchronisers: the second block's pin rises in 4.
seen_two_clocks_late : levels (twin_samples (waits_for_the_other 0) [] [] 6) ≡ (1, 0) ∷ (1, 0) ∷ (1, 0) ∷ (1, 0) ∷ (1, 2) ∷ (1, 2) ∷ []
unfolding is_tick settled merged wait_at in_at push_or_pull_at mov_at irq_at set_at act_of side_of delay_of reading_of jmp_effect wait_effect in_effect out_effect push_effect pull_effect mov_effect irq_effect set_effect effect_of settled_ports after_effect tick_delay tick_by tick_word tick_of due_in transfers_after acts_in stepped hosted_twin_next hosted_twin_at twin_samples requests_of sample_of acted settled_slot
seen_two_clocks_late = refl

-- the same where the second block bypasses the synchroniser of pin 0
seen_at_once : levels (twin_samples (waits_for_the_other 1) [] [] 6) ≡ (1, 0) ∷ (1, 0) ∷ (1, 2) ∷ (1, 2) ∷ (1, 2) ∷ (1, 2) ∷ []
unfolding is_tick settled merged wait_at in_at push_or_pull_at mov_at irq_at set_at act_of side_of delay_of reading_of jmp_effect wait_effect in_effect out_effect push_effect pull_effect mov_effect irq_effect set_effect effect_of settled_ports after_effect tick_delay tick_by tick_word tick_of due_in transfers_after acts_in stepped hosted_twin_next hosted_twin_at twin_samples requests_of sample_of acted settled_slot
seen_at_once = refl

-- a line of the second block's machine 0
written_to_the_second : tx_levels (twin_samples (waits_for_the_other 0) [] (record { clock = 0; act = Tx 0 1 } ∷ []) 2) ≡ (0 ∷ 0 ∷ 0 ∷ 0 ∷ [], 1 ∷ 0 ∷ 0 ∷ 0 ∷ []) ∷ (0 ∷ 0 ∷ 0 ∷ 0 ∷ [], 1 ∷ 0 ∷ 0 ∷ 0 ∷ []) ∷ []
unfolding is_tick settled merged wait_at in_at push_or_pull_at mov_at irq_at set_at act_of side_of delay_of reading_of jmp_effect wait_effect in_effect out_effect push_effect pull_effect mov_effect irq_effect set_effect effect_of settled_ports after_effect tick_delay tick_by tick_word tick_of due_in transfers_after acts_in stepped hosted_twin_next hosted_twin_at twin_samples requests_of sample_of acted settled_slot
written_to_the_second = refl

-- The outside's level is on the pad from the start, whichever block owns the pin.
outside_is_the_firsts : levels (twin_samples waits_for_the_outside [] [] 3) ≡ (0, 0) ∷ (0, 4) ∷ (0, 4) ∷ []
unfolding is_tick settled merged wait_at in_at push_or_pull_at mov_at irq_at set_at act_of side_of delay_of reading_of jmp_effect wait_effect in_effect out_effect push_effect pull_effect mov_effect irq_effect set_effect effect_of settled_ports after_effect tick_delay tick_by tick_word tick_of due_in transfers_after acts_in stepped hosted_twin_next hosted_twin_at twin_samples requests_of sample_of acted settled_slot
outside_is_the_firsts = refl

-- every clock begins an instruction in both, and stirs once
stir_once : twin_stirring both_set [] [] 10 ≡ 10
unfolding is_tick settled merged wait_at in_at push_or_pull_at mov_at irq_at set_at act_of side_of delay_of reading_of jmp_effect wait_effect in_effect out_effect push_effect pull_effect mov_effect irq_effect set_effect effect_of settled_ports after_effect tick_delay tick_by tick_word tick_of due_in transfers_after acts_in stepped hosted_twin_next hosted_twin_at requests_of acted settled_slot twin_stirs_in twin_stirring
stir_once = refl
