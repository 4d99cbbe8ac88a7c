-- Rows of spans that don't hold in a run, worked by hand: of one block with a stimulus that disturbs it, and of two blocks, of which
-- the second owns pin 0.
use Rattle.std.proofs.Common.{◌≡◌, ℕ, true, false, Some, List, [], ◌∷◌, refl, arith}
use Rattle.clock_divider.specs.Ticks.{is_tick}
use Rattle.fifo_pair.specs.Fifos.{settled}
use Rattle.pio_encode.specs.Word.{reading_of, act_of, push_or_pull_at, delay_of, side_of, mov_at, set_at}
use Rattle.pin_matrix.specs.Pins.{merged}
use Rattle.pin_matrix.specs.declared.setup.Setup.{Setup}
use Rattle.pin_matrix.specs.declared.span.Span.{Span}
use Rattle.pin_matrix.specs.declared.span.SpanUnit.TheVariants.{Ticks}
use Rattle.sm_registers.specs.Effects.{effect_of, jmp_effect, out_effect, pull_effect, set_effect, mov_effect}
use Rattle.sm_registers.specs.State.{settled_ports}
use Rattle.sm_registers.specs.Tick.{tick_of, tick_delay, tick_word, tick_by, after_effect}
use Rattle.dreq_pacing.specs.declared.due.Due.{Due}
use Rattle.dreq_pacing.specs.declared.line.Line.{Line}
use Rattle.dreq_pacing.specs.declared.line.LineAct.TheVariants.{Restart}
use Rattle.dreq_pacing.specs.Ports.{due_in, transfers_after}
use Rattle.block_core.specs.Shown.{requests_of}
use Rattle.block_core.specs.Block.{BlockState, first_run, stepped, next}
use Rattle.block_core.specs.Hosted.{hosted_at, hosted_next, host_of}
use Rattle.block_core.specs.HostedTwin.{hosted_twin_at, hosted_twin_next}
use Rattle.block_core.specs.Twin.{first_twin, twin_from}
use Rattle.block_core.specs.Slots.{acted, settled_slot}
use Rattle.span_check.specs.Marks.{mark_of}
use Rattle.span_check.specs.Holding.{counted, Holds}
use Rattle.span_check.specs.Runs.{marks_over, seen_beside, state_beside, HoldsOver, HoldsUpTo}
use Rattle.span_check.specs.Pairs.{first_does, second_does, pair_sees, HoldsInFirst, HoldsInSecond}
use Rattle.span_check.proofs.Plain.{plain_spoken}
use Rattle.span_check.proofs.WorkedSetups.{plain_machine, block_of, span_of}

-- `set pins, 1`, `set pins, 0` on pin 0, which is high for one tick
short : Setup
short = block_of (record plain_machine { wrap_top = 1; wrap_top_in_memory = omega arith }) refl (57345 ∷ 57344 ∷ []) 0

-- `set pins, 1 [2]`, `set pins, 0` on pin 0, which is high for three ticks
long : Setup
long = block_of (record plain_machine { wrap_top = 1; wrap_top_in_memory = omega arith }) refl (57857 ∷ 57344 ∷ []) 0

-- at least two ticks of high are asked
at_least_two : Span
at_least_two = span_of true false 2 9 (omega arith) (omega arith) []

-- a pulse of one tick, from clock 0 on, is too short
too_short : (memory : List ℕ) (seen : ℕ → ℕ) (host : ℕ → Due) (states : ℕ → BlockState) → let m = marks_over at_least_two memory seen host states in
    (m 0).from ≡ true → (m 1).to ≡ true → counted m 0 2 ≡ 1 → Holds Ticks 2 (Some 9) m 2 → ⊥
unfolding at_least_two
too_short memory seen host states from to count holds =
    omega (
      arith,
      count,
      (holds 0 (omega arith) from).least 1 (record { after = omega arith; first = λ c after before. absurd (omega (arith, after, before)); edge = to }) (omega arith)
          ((plain_spoken at_least_two memory seen host states Ticks 0 2 (record { waits = refl; leaves = refl; assumes = refl })).1 tt),
    )

-- in one block, with a line that restarts its divider meanwhile
short_beside_a_line : HoldsUpTo at_least_two short (record { clock = 1; act = Restart 0 } ∷ []) 2 → ⊥
unfolding short at_least_two mark_of counted hosted_at hosted_next next stepped acted settled_slot is_tick settled merged reading_of act_of push_or_pull_at delay_of side_of set_at mov_at effect_of jmp_effect out_effect pull_effect set_effect mov_effect settled_ports tick_of tick_delay tick_word tick_by after_effect due_in transfers_after requests_of
short_beside_a_line = let lines : List Line = record { clock = 1; act = Restart 0 } ∷ [] in
    too_short short.memory (seen_beside short lines) (host_of (first_run short) lines) (state_beside short lines) refl refl refl

-- Whichever pins the second owns, what is said of the first is said of what its machines see and do, by its definition. So one that
-- leaves out some pins is refused, though the rows after these two stand at own = 1 alone.
in_the_first : (sp : Span) (own : ℕ) (s t : Setup) (first second : List Line) (n : ℕ) → HoldsInFirst sp own s t first second n
    → HoldsOver sp s.memory (pair_sees s.bypass own s t first second) (first_does own s t first second)
    (λ c. (hosted_twin_at (first_twin own s t) first second c).first.run.state) n
in_the_first sp own s t first second n holds = λ c below from. holds c below from

-- and of the second
in_the_second : (sp : Span) (own : ℕ) (s t : Setup) (first second : List Line) (n : ℕ) → HoldsInSecond sp own s t first second n
    → HoldsOver sp t.memory (pair_sees t.bypass own s t first second) (second_does own s t first second)
    (λ c. (hosted_twin_at (first_twin own s t) first second c).second.run.state) n
in_the_second sp own s t first second n holds = λ c below from. holds c below from

-- in the first of two blocks, and in the second
short_in_the_first : HoldsInFirst at_least_two 1 short long [] [] 2 → ⊥
unfolding short long at_least_two mark_of counted hosted_at hosted_next next stepped acted settled_slot is_tick settled merged reading_of act_of push_or_pull_at delay_of side_of set_at mov_at effect_of jmp_effect out_effect pull_effect set_effect mov_effect settled_ports tick_of tick_delay tick_word tick_by after_effect due_in transfers_after requests_of hosted_twin_at hosted_twin_next twin_from
short_in_the_first holds =
    too_short short.memory (pair_sees short.bypass 1 short long [] []) (first_does 1 short long [] []) (λ c. (hosted_twin_at (first_twin 1 short long) [] [] c).first.run.state) refl refl refl
    (in_the_first at_least_two 1 short long [] [] 2 holds)

short_in_the_second : HoldsInSecond at_least_two 1 long short [] [] 2 → ⊥
unfolding short long at_least_two mark_of counted hosted_at hosted_next next stepped acted settled_slot is_tick settled merged reading_of act_of push_or_pull_at delay_of side_of set_at mov_at effect_of jmp_effect out_effect pull_effect set_effect mov_effect settled_ports tick_of tick_delay tick_word tick_by after_effect due_in transfers_after requests_of hosted_twin_at hosted_twin_next twin_from
short_in_the_second holds =
    too_short short.memory (pair_sees short.bypass 1 long short [] []) (second_does 1 long short [] []) (λ c. (hosted_twin_at (first_twin 1 long short) [] [] c).second.run.state) refl refl refl
    (in_the_second at_least_two 1 long short [] [] 2 holds)
