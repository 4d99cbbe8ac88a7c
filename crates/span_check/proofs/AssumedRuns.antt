-- Rows of runs in which an instruction leaves X otherwise than a span assumes, worked by hand.
use Rattle.std.proofs.Common.{◌≡◌, ℕ, zero, suc, ◌<◌, ◌≤◌, true, false, Some, None, [], ◌∷◌, refl, arith}
use Rattle.std.proofs.lemmas.Bool.{both_ways}
use Rattle.clock_divider.specs.Ticks.{is_tick}
use Rattle.fifo_pair.specs.Fifos.{settled}
use Rattle.pio_encode.specs.Word.{reading_of, act_of, push_or_pull_at, delay_of, side_of, mov_at, set_at}
use Rattle.pin_matrix.specs.Pins.{merged}
use Rattle.pin_matrix.specs.declared.assume.Assumption.{Assumption}
use Rattle.pin_matrix.specs.declared.setup.Setup.{Setup}
use Rattle.pin_matrix.specs.declared.span.SpanUnit.TheVariants.{Ticks}
use Rattle.sm_registers.specs.Effects.{effect_of, jmp_effect, out_effect, pull_effect, set_effect, mov_effect}
use Rattle.sm_registers.specs.State.{settled_ports}
use Rattle.sm_registers.specs.Tick.{tick_of, tick_delay, tick_word, tick_by, after_effect}
use Rattle.dreq_pacing.specs.Ports.{due_in, transfers_after}
use Rattle.block_core.specs.Shown.{requests_of}
use Rattle.block_core.specs.Block.{stepped, next}
use Rattle.block_core.specs.Hosted.{hosted_at, hosted_next}
use Rattle.block_core.specs.Slots.{acted, settled_slot}
use Rattle.span_check.specs.Marks.{Mark, mark_of}
use Rattle.span_check.specs.Holding.{counted, IsAssumed, IsQuiet, IsSpokenOf, HoldsFrom}
use Rattle.span_check.specs.Runs.{marks_in}
use Rattle.span_check.proofs.WorkedSetups.{plain_machine, block_of, assuming_of}

-- `set pins, 1`, `set x, 5 [2]`, `set pins, 0`: the SET of X finishes in clock 1, and its delay is over in clock 3
program : Setup
program = block_of (record plain_machine { wrap_top = 2; wrap_top_in_memory = omega arith }) refl (57345 ∷ 57893 ∷ 57344 ∷ []) 0

-- after the instruction at an address X is between two numbers
abbrev between : (address lo hi : ℕ) → Assumption
between address lo hi = record { address = address; x = Some (record { lo = lo; hi = hi }); y = None }

-- the high time, where X is assumed to be 0 to 4 after the SET; up to 9 ticks
missed : ℕ → Mark
missed = marks_in (assuming_of 9 (omega arith) (between 1 0 4 ∷ [])) program []

missed-row : ((missed 0).misses ≡ false) × ((missed 1).misses ≡ true) × ((missed 2).misses ≡ false) × ((missed 0).rested ≡ true) × ((missed 1).rested ≡ false) × ((missed 2).rested ≡ false) × ((missed 3).rested ≡ true) × ((missed 0).from ≡ true) × ((missed 1).to ≡ false) × ((missed 2).to ≡ false) × ((missed 3).to ≡ false) × ((missed 4).to ≡ true)
unfolding program missed mark_of counted hosted_at hosted_next next stepped acted settled_slot is_tick settled merged reading_of act_of push_or_pull_at delay_of side_of set_at mov_at effect_of jmp_effect out_effect pull_effect set_effect mov_effect settled_ports tick_of tick_delay tick_word tick_by after_effect due_in transfers_after requests_of
missed-row = (refl, refl, refl, refl, refl, refl, refl, refl, refl, refl, refl, refl)

-- where it is assumed to be 5 or more, or this is assumed of another instruction, or of Y, which is 0, nothing is missed
met : ℕ → Mark
met = marks_in (assuming_of 9 (omega arith) (between 1 5 9 ∷ between 2 0 9 ∷ between 3 0 4 ∷ record { address = 1; x = None; y = Some (record { lo = 0; hi = 0 }) } ∷ [])) program []

met-row : ((met 0).misses ≡ false) × ((met 1).misses ≡ false) × ((met 2).misses ≡ false) × ((met 3).misses ≡ false) × ((met 4).misses ≡ false)
unfolding program met mark_of counted hosted_at hosted_next next stepped acted settled_slot is_tick settled merged reading_of act_of push_or_pull_at delay_of side_of set_at mov_at effect_of jmp_effect out_effect pull_effect set_effect mov_effect settled_ports tick_of tick_delay tick_word tick_by after_effect due_in transfers_after requests_of
met-row = (refl, refl, refl, refl, refl)

-- of two assumptions of one instruction each is asked
second_missed : ℕ → Mark
second_missed = marks_in (assuming_of 9 (omega arith) (between 1 5 9 ∷ between 1 6 9 ∷ [])) program []

second_missed-row : ((second_missed 1).misses ≡ true) × ((second_missed 0).misses ≡ false)
unfolding program second_missed mark_of counted hosted_at hosted_next next stepped acted settled_slot is_tick settled merged reading_of act_of push_or_pull_at delay_of side_of set_at mov_at effect_of jmp_effect out_effect pull_effect set_effect mov_effect settled_ports tick_of tick_delay tick_word tick_by after_effect due_in transfers_after requests_of
second_missed-row = (refl, refl)

-- ticks and how the machine stands
missed-count : (counted missed 0 3 ≡ 2) × (counted missed 0 4 ≡ 3) × ((missed 1).excused ≡ false) × ((missed 2).excused ≡ false) × ((missed 1).strays ≡ false) × ((missed 2).strays ≡ false) × ((missed 3).strays ≡ false) × ((missed 4).strays ≡ false)
unfolding program missed mark_of counted hosted_at hosted_next next stepped acted settled_slot is_tick settled merged reading_of act_of push_or_pull_at delay_of side_of set_at mov_at effect_of jmp_effect out_effect pull_effect set_effect mov_effect settled_ports tick_of tick_delay tick_word tick_by after_effect due_in transfers_after requests_of
missed-count = (refl, refl, refl, refl, refl, refl, refl, refl)

-- up to clock 3, in which the delay is over, X is as assumed
assumed_before_3 : IsAssumed missed 3
assumed_before_3 zero zero misses from before = absurd (both_ways _ missed-row.0 misses)
assumed_before_3 (suc f) zero misses from before = absurd (omega (arith, from))
assumed_before_3 f (suc zero) misses from before = missed-row.4
assumed_before_3 f (suc (suc zero)) misses from before = missed-row.5
assumed_before_3 f (suc (suc (suc c))) misses from before = absurd (omega (arith, before))

free_before_3 : (c : ℕ) → 0 < c → c < 3 → (missed c).excused ≡ false
free_before_3 zero after before = absurd (omega (arith, after))
free_before_3 (suc zero) after before = missed-count.2
free_before_3 (suc (suc zero)) after before = missed-count.3
free_before_3 (suc (suc (suc c))) after before = absurd (omega (arith, before))

quiet_before_3 : IsQuiet missed 0 3
quiet_before_3 zero after before = absurd (omega (arith, after))
quiet_before_3 (suc zero) after before = missed-row.8
quiet_before_3 (suc (suc zero)) after before = missed-row.9
quiet_before_3 (suc (suc (suc c))) after before = absurd (omega (arith, before))

-- so of the two ticks of high up to there it is asked that they aren't too many
missed_in_the_delay : HoldsFrom Ticks 0 (Some 1) missed 3 0 → ⊥
missed_in_the_delay h = omega (arith, missed-count.0, h.unclosed quiet_before_3 (record { free = free_before_3; assumed = assumed_before_3; unbroken = tt }))

-- and of the third nothing is said, nor of the to-edge
unspoken_from_3_on : (end : ℕ) → 3 < end → IsSpokenOf Ticks missed 0 end → ⊥
unspoken_from_3_on end after spoken = both_ways _ (spoken.assumed 1 3 missed-row.1 (omega arith) after) missed-row.6

low_at_4 : (e : ℕ) → 0 < e → (missed e).to ≡ true → 3 < e
low_at_4 zero after edge = absurd (omega (arith, after))
low_at_4 (suc zero) after edge = absurd (both_ways _ missed-row.8 edge)
low_at_4 (suc (suc zero)) after edge = absurd (both_ways _ missed-row.9 edge)
low_at_4 (suc (suc (suc zero))) after edge = absurd (both_ways _ missed-row.10 edge)
low_at_4 (suc (suc (suc (suc e)))) after edge = omega arith

straying_none : (c : ℕ) → 0 < c → c < 5 → (missed c).strays ≡ false
straying_none zero after before = absurd (omega (arith, after))
straying_none (suc zero) after before = missed-count.4
straying_none (suc (suc zero)) after before = missed-count.5
straying_none (suc (suc (suc zero))) after before = missed-count.6
straying_none (suc (suc (suc (suc zero)))) after before = missed-count.7
straying_none (suc (suc (suc (suc (suc c))))) after before = absurd (omega (arith, before))

missed_and_over : (n : ℕ) → 3 < n → n ≤ 5 → HoldsFrom Ticks 9 (Some 2) missed n 0
missed_and_over n over within = record {
  least = λ e ends inside spoken. absurd (unspoken_from_3_on (suc e) (omega (arith, low_at_4 e ends.after ends.edge)) spoken);
  most = λ e ends inside spoken. absurd (unspoken_from_3_on (suc e) (omega (arith, low_at_4 e ends.after ends.edge)) spoken);
  unclosed = λ quiet spoken. absurd (unspoken_from_3_on n over spoken);
  strays = λ some c after before quiet spoken. straying_none c after (omega (arith, before, within));
}

-- `set pins, 1`, `set x, 5`, `set pins, 0`: without a delay the run is over in the clock of the SET
undelayed : ℕ → Mark
undelayed = marks_in (assuming_of 9 (omega arith) (between 1 0 4 ∷ [])) (block_of (record plain_machine { wrap_top = 2; wrap_top_in_memory = omega arith }) refl (57345 ∷ 57381 ∷ 57344 ∷ []) 0) []

undelayed-row : ((undelayed 0).from ≡ true) × ((undelayed 1).misses ≡ true) × ((undelayed 1).rested ≡ true) × ((undelayed 2).to ≡ true) × (counted undelayed 0 2 ≡ 1)
unfolding undelayed mark_of counted hosted_at hosted_next next stepped acted settled_slot is_tick settled merged reading_of act_of push_or_pull_at delay_of side_of set_at mov_at effect_of jmp_effect out_effect pull_effect set_effect mov_effect settled_ports tick_of tick_delay tick_word tick_by after_effect due_in transfers_after requests_of
undelayed-row = (refl, refl, refl, refl, refl)

undelayed_unspoken : IsSpokenOf Ticks undelayed 0 2 → ⊥
undelayed_unspoken spoken = both_ways _ (spoken.assumed 1 1 undelayed-row.1 (omega arith) (omega arith)) undelayed-row.2
