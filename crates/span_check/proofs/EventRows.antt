-- Worked rows of events in the program: edges that named instructions make, and ends of instructions.
use Rattle.std.proofs.Common.{◌≡◌, ℕ, suc, ◌<◌, ◌≤◌, true, false, Some, None, [], ◌∷◌, refl, subst, arith}
use Rattle.std.proofs.lemmas.Bool.{both_ways}
use Rattle.pin_matrix.specs.declared.setup.Setup.{Setup}
use Rattle.pin_matrix.specs.declared.span.SpanUnit.TheVariants.{Ticks}
use Rattle.dreq_pacing.specs.declared.line.LineAct.TheVariants.{Tx}
use Rattle.clock_divider.specs.Ticks.{is_tick}
use Rattle.fifo_pair.specs.Fifos.{settled}
use Rattle.pin_matrix.specs.Pins.{merged}
use Rattle.pio_encode.specs.Word.{reading_of, act_of, push_or_pull_at, delay_of, side_of, mov_at, set_at}
use Rattle.sm_registers.specs.declared.intent.Kind.TheVariants.{Off, First, Late, Delay}
use Rattle.sm_registers.specs.Effects.{effect_of, jmp_effect, out_effect, pull_effect, set_effect, mov_effect}
use Rattle.sm_registers.specs.State.{settled_ports}
use Rattle.sm_registers.specs.Tick.{tick_of, tick_delay, tick_word, tick_by, after_effect}
use Rattle.dreq_pacing.specs.Ports.{due_in, transfers_after}
use Rattle.block_core.specs.Shown.{requests_of}
use Rattle.block_core.specs.Block.{stepped, next}
use Rattle.block_core.specs.Hosted.{hosted_at, hosted_next}
use Rattle.block_core.specs.Slots.{acted, settled_slot}
use Rattle.span_ticks.specs.Following.{finishes, works}
use Rattle.span_check.specs.Marks.{Mark, mark_of}
use Rattle.span_check.specs.Holding.{counted, HoldsFrom, IsSpokenOf}
use Rattle.span_check.specs.Runs.{marks_in}
use Rattle.span_check.proofs.Plain.{plain_spoken}
use Rattle.span_check.proofs.WorkedSetups.{plain_machine, side_one, pin_0, block_of, ends_of, made_at, span_of}

-- a machine works at its instruction in the first tick and in late ones, unless a word is pending; it finishes where it doesn't stall
works-row : (works First None ≡ true) × (works Late None ≡ true) × (works Delay None ≡ false) × (works Off None ≡ false) × (works First (Some 0) ≡ false) × (works Late (Some 0) ≡ false)
works-row = (refl, refl, refl, refl, refl, refl)

finishes-row : (finishes true false ≡ true) × (finishes true true ≡ false) × (finishes false false ≡ false)
finishes-row = (refl, refl, refl)

-- `pull side 1`, `nop side 0`: the PULL stalls in clock 0 with pin 0 high, and finishes in its late tick in clock 6
waiting : Setup
waiting = block_of (record plain_machine { side_rule = side_one; side = pin_0; wrap_top = 1; wrap_top_in_memory = omega arith }) refl (37024 ∷ 41026 ∷ []) 0

-- from the end of the PULL to an end of either
ends : ℕ → Mark
ends = marks_in (ends_of (0 ∷ []) (1 ∷ 0 ∷ [])) waiting (record { clock = 5; act = Tx 0 7 } ∷ [])

ends-row : ((ends 0).from ≡ false) × ((ends 1).from ≡ false) × ((ends 6).from ≡ true) × ((ends 6).to ≡ true) × ((ends 7).from ≡ false) × ((ends 7).to ≡ true) × ((ends 7).strays ≡ false) × (counted ends 6 8 ≡ 1)
unfolding waiting ends mark_of counted hosted_at hosted_next next stepped acted settled_slot is_tick settled merged reading_of act_of push_or_pull_at delay_of side_of set_at mov_at effect_of jmp_effect out_effect pull_effect set_effect mov_effect settled_ports tick_of tick_delay tick_word tick_by after_effect due_in transfers_after requests_of
ends-row = (refl, refl, refl, refl, refl, refl, refl, refl)

at_7 : (P : ℕ → Type 0) → P 7 → (c : ℕ) → 6 < c → c < 8 → P c
at_7 P seven c after before = let e : 7 ≡ c = omega (arith, after, before) in subst P e seven

-- the to-event in the clock of the from-event doesn't close it, and the next one does
ends-hold : HoldsFrom Ticks 1 (Some 1) ends 8 6
ends-hold = record {
  least = λ e to before spoken. at_7 (λ c. 1 ≤ counted ends 6 (suc c)) (omega (arith, ends-row.7)) e to.after before;
  most = λ e to before spoken. at_7 (λ c. counted ends 6 (suc c) ≤ 1) (omega (arith, ends-row.7)) e to.after before;
  unclosed = λ quiet spoken. absurd (both_ways _ (quiet 7 (omega arith) (omega arith)) ends-row.5);
  strays = λ some c after before quiet spoken. at_7 (λ k. (ends k).strays ≡ false) ends-row.6 c after before;
}

ends-spoken : IsSpokenOf Ticks ends 6 8
unfolding ends
ends-spoken = (plain_spoken _ _ _ _ _ Ticks 6 8 (record { waits = refl; leaves = refl; assumes = refl })).1 tt

ends-early : HoldsFrom Ticks 2 (Some 9) ends 8 6 → ⊥
ends-early h = omega (
  arith,
  ends-row.7,
  h.least 7 (record { after = omega arith; first = λ c after before. absurd (omega (arith, after, before)); edge = ends-row.5 }) (omega arith) ends-spoken,
)

-- side-set makes the rise in the PULL's first tick, in which it stalls; NOP makes the fall
made : ℕ → Mark
made = marks_in (made_at (0 ∷ []) (1 ∷ [])) waiting (record { clock = 5; act = Tx 0 7 } ∷ [])

made_by_others : ℕ → Mark
made_by_others = marks_in (made_at (1 ∷ []) (0 ∷ [])) waiting (record { clock = 5; act = Tx 0 7 } ∷ [])

made-row : ((made 0).from ≡ true) × ((made 7).to ≡ true) × ((made 6).from ≡ false) × ((made_by_others 0).from ≡ false) × ((made_by_others 7).to ≡ false)
unfolding waiting made made_by_others mark_of counted hosted_at hosted_next next stepped acted settled_slot is_tick settled merged reading_of act_of push_or_pull_at delay_of side_of set_at mov_at effect_of jmp_effect out_effect pull_effect set_effect mov_effect settled_ports tick_of tick_delay tick_word tick_by after_effect due_in transfers_after requests_of
made-row = (refl, refl, refl, refl, refl)

-- `out pins, 1` with autopull, which waits for two ticks, and `set pins, 0`: OUT makes the rise in its last late tick, in clock 2
late : ℕ → Mark
late = marks_in (made_at (0 ∷ []) (0 ∷ [])) (block_of (record plain_machine { out = pin_0; autopull = true; wrap_top = 1; wrap_top_in_memory = omega arith }) refl (24577 ∷ 57344 ∷ []) 0) (record { clock = 0; act = Tx 0 1 } ∷ [])

late-row : ((late 0).from ≡ false) × ((late 1).from ≡ false) × ((late 2).from ≡ true) × ((late 3).to ≡ false)
unfolding late mark_of counted hosted_at hosted_next next stepped acted settled_slot is_tick settled merged reading_of act_of push_or_pull_at delay_of side_of set_at mov_at effect_of jmp_effect out_effect pull_effect set_effect mov_effect settled_ports tick_of tick_delay tick_word tick_by after_effect due_in transfers_after requests_of
late-row = (refl, refl, refl, refl)

-- `set pins, 1 [2]`, `set pins, 0`: PC is 1 in the delay, in which nothing ends
delayed : ℕ → Mark
delayed = marks_in (ends_of (0 ∷ []) (1 ∷ [])) (block_of (record plain_machine { wrap_top = 1; wrap_top_in_memory = omega arith }) refl (57857 ∷ 57344 ∷ []) 0) []

delayed-row : ((delayed 0).from ≡ true) × ((delayed 0).to ≡ false) × ((delayed 1).from ≡ false) × ((delayed 1).to ≡ false) × ((delayed 2).to ≡ false) × ((delayed 3).from ≡ false) × ((delayed 3).to ≡ true)
unfolding delayed mark_of counted hosted_at hosted_next next stepped acted settled_slot is_tick settled merged reading_of act_of push_or_pull_at delay_of side_of set_at mov_at effect_of jmp_effect out_effect pull_effect set_effect mov_effect settled_ports tick_of tick_delay tick_word tick_by after_effect due_in transfers_after requests_of
delayed-row = (refl, refl, refl, refl, refl, refl, refl)

-- `set pins, 0` at 0, before which the pending word `set pins, 1` runs in clock 0, with PC 0: its rise is made by no instruction, and
-- its end is none
pending : Setup
pending = block_of (record plain_machine { pending = Some 57345; wrap_top = 1; wrap_top_in_memory = omega arith }) refl (57344 ∷ 57344 ∷ []) 0

pending_made : ℕ → Mark
pending_made = marks_in (made_at (0 ∷ []) (0 ∷ [])) pending []

pending_any : ℕ → Mark
pending_any = marks_in (span_of true false 1 1 (omega arith) (omega arith) []) pending []

pending_ends : ℕ → Mark
pending_ends = marks_in (ends_of (0 ∷ []) (1 ∷ [])) pending []

pending-row : ((pending_any 0).from ≡ true) × ((pending_made 0).from ≡ false) × ((pending_made 1).to ≡ true) × ((pending_ends 0).from ≡ false) × ((pending_ends 1).from ≡ true) × ((pending_ends 1).to ≡ false) × ((pending_ends 2).to ≡ true)
unfolding pending pending_made pending_any pending_ends mark_of counted hosted_at hosted_next next stepped acted settled_slot is_tick settled merged reading_of act_of push_or_pull_at delay_of side_of set_at mov_at effect_of jmp_effect out_effect pull_effect set_effect mov_effect settled_ports tick_of tick_delay tick_word tick_by after_effect due_in transfers_after requests_of
pending-row = (refl, refl, refl, refl, refl, refl, refl)
