-- Worked rows: what the definitions give for runs that were worked out by hand.
use Rattle.std.proofs.Common.{◌≡◌, ℕ, zero, suc, ◌<◌, ◌≤◌, Bool, true, false, Option, Some, None, [], ◌∷◌, refl, subst, inl, inr, arith}
use Rattle.std.proofs.lemmas.Bool.{cases_lt, both_ways}
use Rattle.pin_matrix.specs.declared.setup.Setup.{Setup}
use Rattle.pin_matrix.specs.declared.span.Span.{Span}
use Rattle.pin_matrix.specs.declared.span.SpanUnit.TheVariants.{Ticks, Clocks}
use Rattle.dreq_pacing.specs.declared.line.LineAct.TheVariants.{Tx, Restart, Disable, Enable}
use Rattle.clock_divider.specs.Ticks.{is_tick}
use Rattle.fifo_pair.specs.Fifos.{settled}
use Rattle.pin_matrix.specs.Pins.{merged}
use Rattle.pio_encode.specs.Word.{reading_of, act_of, push_or_pull_at, delay_of, side_of, mov_at, set_at}
use Rattle.sm_registers.specs.Effects.{effect_of, jmp_effect, out_effect, pull_effect, set_effect, mov_effect}
use Rattle.sm_registers.specs.State.{settled_ports}
use Rattle.sm_registers.specs.Tick.{tick_of, tick_delay, tick_word, tick_by, after_effect}
use Rattle.dreq_pacing.specs.Ports.{due_in, transfers_after}
use Rattle.block_core.specs.Shown.{requests_of}
use Rattle.block_core.specs.Block.{stepped, next}
use Rattle.block_core.specs.Hosted.{hosted_at, hosted_next}
use Rattle.block_core.specs.Slots.{acted, settled_slot}
use Rattle.span_check.specs.Marks.{Mark, mark_of}
use Rattle.span_check.specs.Holding.{counted, measured, IsQuiet, IsFirstToEdge, IsSpokenOf, HoldsFrom}
use Rattle.span_check.specs.Runs.{marks_in}
use Rattle.span_ticks.specs.UnderWay.{Flow, is_excused_in}
use Rattle.span_check.specs.Asked.{IsPlain}
use Rattle.span_check.proofs.Plain.{plain_spoken}
use Rattle.span_check.proofs.WorkedSetups.{plain_machine, pulling, side_one, side_one_opt, pin_0, block_of, span_of, span_from, turn_of, prompt_of, without_of}
use Rattle.span_check.proofs.Asking.{no_bound}

-- a UART transmitter: `pull side 1 [7]`, `set x, 7 side 0 [7]`, `out pins, 1`, `jmp x-- 2 [6]`
uart : Setup
uart = block_of (record plain_machine { side_rule = side_one_opt; side = pin_0; out = pin_0; wrap_top = 3; wrap_top_in_memory = omega arith }) refl (40864 ∷ 63271 ∷ 24577 ∷ 1602 ∷ []) 1

-- from its fall, the start bit, to a rise; the byte 0x41 waits in TX from clock 0 on
start_bit : ℕ → Mark
start_bit = marks_in (span_of false true 8 72 (omega arith) (omega arith) []) uart (record { clock = 0; act = Tx 0 65 } ∷ [])

-- the start bit begins in clock 9, and the first data bit, a 1, in clock 17
uart-row : ((start_bit 9).from ≡ true) × ((start_bit 17).to ≡ true) × (counted start_bit 9 18 ≡ 8)
unfolding uart start_bit mark_of counted hosted_at hosted_next next stepped acted settled_slot is_tick settled merged reading_of act_of push_or_pull_at delay_of side_of set_at mov_at effect_of jmp_effect out_effect pull_effect set_effect mov_effect settled_ports tick_of tick_delay tick_word tick_by after_effect due_in transfers_after requests_of
uart-row = (refl, refl, refl)

-- a WS2812 transmitter: `out x, 1 side 0 [2]`, `jmp !x 3 side 1 [1]`, `jmp 0 side 1 [4]`, `nop side 0 [4]`, with autopull
ws2812 : Setup
ws2812 = block_of (record plain_machine { side_rule = side_one; side = pin_0; autopull = true; pull_threshold = 24; out_right = false; wrap_top = 3; wrap_top_in_memory = omega arith; pulls_some = omega arith; pulls_a_word = omega arith }) refl (25121 ∷ 4387 ∷ 5120 ∷ 41026 ∷ []) 0

-- the high time of a 1
high : ℕ → Mark
high = marks_in (span_of true false 2 7 (omega arith) (omega arith) []) ws2812 (record { clock = 0; act = Tx 0 2147483648 } ∷ [])

-- OUT stalls in clock 0, the OSR is refilled in clock 1, and OUT finishes in clock 2
ws2812-row : ((high 5).from ≡ true) × ((high 12).to ≡ true) × (counted high 5 13 ≡ 7)
unfolding ws2812 high mark_of counted hosted_at hosted_next next stepped acted settled_slot is_tick settled merged reading_of act_of push_or_pull_at delay_of side_of set_at mov_at effect_of jmp_effect out_effect pull_effect set_effect mov_effect settled_ports tick_of tick_delay tick_word tick_by after_effect due_in transfers_after requests_of
ws2812-row = (refl, refl, refl)

-- a PULL that waits with pin 0 high: `pull side 1`, `nop side 0`
waiting : Setup
waiting = block_of (record plain_machine { side_rule = side_one; side = pin_0; wrap_top = 1; wrap_top_in_memory = omega arith }) refl (37024 ∷ 41026 ∷ []) 0

-- the high time, with the stall named and without
named : ℕ → Mark
named = marks_in (span_of true false 1 1 (omega arith) (omega arith) (0 ∷ [])) waiting (record { clock = 5; act = Tx 0 7 } ∷ [])

unnamed : ℕ → Mark
unnamed = marks_in (span_of true false 1 1 (omega arith) (omega arith) []) waiting (record { clock = 5; act = Tx 0 7 } ∷ [])

-- six late ticks, of which the last pulls: not counted where they are named, and amiss where they are not
waiting-row : ((named 0).from ≡ true) × ((named 7).to ≡ true) × (counted named 0 8 ≡ 1) × ((named 1).strays ≡ false) × ((unnamed 1).strays ≡ true) × (counted unnamed 0 8 ≡ 7)
unfolding waiting named unnamed mark_of counted hosted_at hosted_next next stepped acted settled_slot is_tick settled merged reading_of act_of push_or_pull_at delay_of side_of set_at mov_at effect_of jmp_effect out_effect pull_effect set_effect mov_effect settled_ports tick_of tick_delay tick_word tick_by after_effect due_in transfers_after requests_of
waiting-row = (refl, refl, refl, refl, refl, refl)

-- the same stall without a greatest bound
freely : ℕ → Mark
freely = marks_in (span_from true false 7 (omega arith) []) waiting (record { clock = 5; act = Tx 0 7 } ∷ [])

freely-row : ((freely 0).from ≡ true) × ((freely 1).strays ≡ true) × ((freely 7).to ≡ true) × (counted freely 0 8 ≡ 7) × ((freely 1).to ≡ false) × ((freely 2).to ≡ false) × ((freely 3).to ≡ false) × ((freely 4).to ≡ false) × ((freely 5).to ≡ false) × ((freely 6).to ≡ false)
unfolding waiting freely mark_of counted hosted_at hosted_next next stepped acted settled_slot is_tick settled merged reading_of act_of push_or_pull_at delay_of side_of set_at mov_at effect_of jmp_effect out_effect pull_effect set_effect mov_effect settled_ports tick_of tick_delay tick_word tick_by after_effect due_in transfers_after requests_of
freely-row = (refl, refl, refl, refl, refl, refl, refl, refl, refl, refl)

high_before_7 : IsQuiet freely 0 7
high_before_7 zero after before = absurd (omega (arith, after))
high_before_7 (suc zero) after before = freely-row.4
high_before_7 (suc (suc zero)) after before = freely-row.5
high_before_7 (suc (suc (suc zero))) after before = freely-row.6
high_before_7 (suc (suc (suc (suc zero)))) after before = freely-row.7
high_before_7 (suc (suc (suc (suc (suc zero))))) after before = freely-row.8
high_before_7 (suc (suc (suc (suc (suc (suc zero)))))) after before = freely-row.9
high_before_7 (suc (suc (suc (suc (suc (suc (suc c))))))) after before = absurd (omega (arith, before))

first_at_7 : (e : ℕ) → IsFirstToEdge freely 0 e → e < 8 → 7 ≡ e
first_at_7 e ends inside = elim (cases_lt e 7) [
  | inl early ↦ absurd (both_ways _ (high_before_7 e ends.after early) ends.edge)
  | inr late ↦ omega (arith, late, inside)
]

-- such a span excuses nothing
plain : {sp : Span} → sp.prompt ≡ false → sp.without ≡ [] → sp.assume ≡ [] → IsPlain sp
plain h k a = record { waits = h; leaves = k; assumes = a }

-- its late ticks count, and are not amiss: with at least 7 it holds, and with at least 8 it doesn't
freely-holds : HoldsFrom Ticks 7 None freely 8 0
freely-holds = record {
  least = λ e ends inside spoken. subst (λ k. 7 ≤ counted freely 0 (suc k)) (first_at_7 e ends inside) (omega (arith, freely-row.3));
  most = λ e ends inside spoken. tt;
  unclosed = λ quiet spoken. tt;
  strays = λ some. absurd (no_bound some);
}

freely-early : HoldsFrom Ticks 8 None freely 8 0 → ⊥
unfolding freely
freely-early h = omega (arith, freely-row.3, h.least 7 (record { after = omega arith; first = high_before_7; edge = freely-row.2 }) (omega arith) ((plain_spoken _ _ _ _ _ Ticks 0 8 (plain refl refl refl)).1 tt))

-- `set pins, 1`, `set pins, 0`, with a divider of 2.5
square : Setup
square = block_of (record plain_machine { int = 2; frac = 128; wrap_top = 1; wrap_top_in_memory = omega arith; divides = refl }) refl (57345 ∷ 57344 ∷ []) 0

-- the high time, with a restart of the divider in clock 6
restarted : ℕ → Mark
restarted = marks_in (span_of true false 1 1 (omega arith) (omega arith) []) square (record { clock = 6; act = Restart 0 } ∷ [])

-- ticks come in the clocks 0, 2, 5, 6, 8, 11
restarted-row : ((restarted 0).from ≡ true) × ((restarted 2).to ≡ true) × ((restarted 5).from ≡ true) × ((restarted 6).to ≡ true) × ((restarted 6).breaks ≡ true) × ((restarted 5).breaks ≡ false) × (counted restarted 5 7 ≡ 1) × (measured Clocks restarted 0 3 ≡ 2)
unfolding square restarted mark_of counted hosted_at hosted_next next stepped acted settled_slot is_tick settled merged reading_of act_of push_or_pull_at delay_of side_of set_at mov_at effect_of jmp_effect out_effect pull_effect set_effect mov_effect settled_ports tick_of tick_delay tick_word tick_by after_effect due_in transfers_after requests_of
restarted-row = (refl, refl, refl, refl, refl, refl, refl, refl)

-- the same with a divider of 1
fast : Setup
fast = block_of (record plain_machine { wrap_top = 1; wrap_top_in_memory = omega arith }) refl (57345 ∷ 57344 ∷ []) 0

-- the machine is disabled in clock 3 and enabled in clock 5
disabled : ℕ → Mark
disabled = marks_in (span_of true false 1 1 (omega arith) (omega arith) []) fast (record { clock = 3; act = Disable 0 } ∷ record { clock = 5; act = Enable 0 } ∷ [])

-- pin 0 is high from clock 2 to clock 5, which is one tick, and three clocks
disabled-row : ((disabled 2).from ≡ true) × ((disabled 5).to ≡ true) × ((disabled 3).breaks ≡ true) × ((disabled 5).breaks ≡ false) × (counted disabled 2 6 ≡ 1) × (measured Clocks disabled 2 6 ≡ 3)
unfolding fast disabled mark_of counted hosted_at hosted_next next stepped acted settled_slot is_tick settled merged reading_of act_of push_or_pull_at delay_of side_of set_at mov_at effect_of jmp_effect out_effect pull_effect set_effect mov_effect settled_ports tick_of tick_delay tick_word tick_by after_effect due_in transfers_after requests_of
disabled-row = (refl, refl, refl, refl, refl, refl)

-- of a span in ticks this is said: with at least 2 it doesn't hold
two_clocks : (m : ℕ → Mark) → (m 3).to ≡ false → (m 4).to ≡ false → IsQuiet m 2 5
two_clocks m h k zero after before = absurd (omega (arith, after))
two_clocks m h k (suc zero) after before = absurd (omega (arith, after))
two_clocks m h k (suc (suc zero)) after before = absurd (omega (arith, after))
two_clocks m h k (suc (suc (suc zero))) after before = h
two_clocks m h k (suc (suc (suc (suc zero)))) after before = k
two_clocks m h k (suc (suc (suc (suc (suc c))))) after before = absurd (omega (arith, before))

high_until_5 : (IsFirstToEdge disabled 2 5) × (counted disabled 2 6 ≡ 1)
unfolding fast disabled mark_of counted hosted_at hosted_next next stepped acted settled_slot is_tick settled merged reading_of act_of push_or_pull_at delay_of side_of set_at mov_at effect_of jmp_effect out_effect pull_effect set_effect mov_effect settled_ports tick_of tick_delay tick_word tick_by after_effect due_in transfers_after requests_of
high_until_5 = (record { after = omega arith; first = two_clocks disabled refl refl; edge = refl }, refl)

disabled-in-ticks : HoldsFrom Ticks 2 (Some 2) disabled 6 2 → ⊥
unfolding disabled
disabled-in-ticks h = omega (arith, h.least 5 high_until_5.0 (omega arith) ((plain_spoken _ _ _ _ _ Ticks 2 6 (plain refl refl refl)).1 tt), high_until_5.1)

-- of a span in clocks nothing is said
disabled-in-clocks : IsSpokenOf Clocks disabled 2 6 → ⊥
disabled-in-clocks h = both_ways _ (h.unbroken 3 (omega arith) (omega arith)) disabled-row.2

-- `set pins, 1 [2]`, `set pins, 0`; the machine is restarted in clock 0, enabled in clock 1, as it was before, and disabled in clock
-- 4, and another one in clock 2
undisturbed : ℕ → Mark
undisturbed = marks_in (span_of true false 4 4 (omega arith) (omega arith) []) (block_of (record plain_machine { wrap_top = 1; wrap_top_in_memory = omega arith }) refl (57857 ∷ 57344 ∷ []) 0) (record { clock = 0; act = Restart 0 } ∷ record { clock = 1; act = Enable 0 } ∷ record { clock = 2; act = Disable 1 } ∷ record { clock = 4; act = Disable 0 } ∷ [])

-- pin 0 is high from clock 0 to clock 3, and nothing breaks a span after clock 0 and up to clock 3
undisturbed-row : ((undisturbed 0).from ≡ true) × ((undisturbed 1).to ≡ false) × ((undisturbed 2).to ≡ false) × ((undisturbed 3).to ≡ true) × ((undisturbed 1).breaks ≡ false) × ((undisturbed 2).breaks ≡ false) × ((undisturbed 3).breaks ≡ false) × ((undisturbed 0).breaks ≡ true) × ((undisturbed 4).breaks ≡ true)
unfolding undisturbed mark_of counted hosted_at hosted_next next stepped acted settled_slot is_tick settled merged reading_of act_of push_or_pull_at delay_of side_of set_at mov_at effect_of jmp_effect out_effect pull_effect set_effect mov_effect settled_ports tick_of tick_delay tick_word tick_by after_effect due_in transfers_after requests_of
undisturbed-row = (refl, refl, refl, refl, refl, refl, refl, refl, refl)

-- what is so in the clocks 1 to 3 is so in each clock between 0 and 4
three_clocks : (P : ℕ → Type 0) → P 1 → P 2 → P 3 → (c : ℕ) → 0 < c → c < 4 → P c
three_clocks P one two three zero after before = absurd (omega (arith, after))
three_clocks P one two three (suc zero) after before = one
three_clocks P one two three (suc (suc zero)) after before = two
three_clocks P one two three (suc (suc (suc zero))) after before = three
three_clocks P one two three (suc (suc (suc (suc c)))) after before = absurd (omega (arith, before))

high_before_3 : IsQuiet undisturbed 0 3
high_before_3 zero after before = absurd (omega (arith, after))
high_before_3 (suc zero) after before = undisturbed-row.1
high_before_3 (suc (suc zero)) after before = undisturbed-row.2
high_before_3 (suc (suc (suc c))) after before = absurd (omega (arith, before))

high_until_3 : IsFirstToEdge undisturbed 0 3
high_until_3 = record { after = omega arith; first = high_before_3; edge = undisturbed-row.3 }

-- so a span in clocks is spoken of
undisturbed-spoken : IsSpokenOf Clocks undisturbed 0 4
unfolding undisturbed
undisturbed-spoken = (plain_spoken _ _ _ _ _ Clocks 0 4 (plain refl refl refl)).1 (three_clocks (λ c. (undisturbed c).breaks ≡ false) undisturbed-row.4 undisturbed-row.5 undisturbed-row.6)

-- with at least 4, or at most 2, it doesn't hold
undisturbed-early : HoldsFrom Clocks 4 (Some 4) undisturbed 4 0 → ⊥
undisturbed-early h = omega (arith, h.least 3 high_until_3 (omega arith) undisturbed-spoken)

undisturbed-late : HoldsFrom Clocks 0 (Some 2) undisturbed 4 0 → ⊥
undisturbed-late h = omega (arith, h.most 3 high_until_3 (omega arith) undisturbed-spoken)

-- nor up to clock 3, where no to-edge came, with at most 1
undisturbed-unclosed : HoldsFrom Clocks 0 (Some 1) undisturbed 3 0 → ⊥
undisturbed-unclosed h = omega (
  arith,
  h.unclosed high_before_3 (record {
    free = λ c after before. undisturbed-spoken.free c after (omega (arith, before));
    assumed = λ f c misses from before. undisturbed-spoken.assumed f c misses from (omega (arith, before));
    unbroken = λ c after before. undisturbed-spoken.unbroken c after (omega (arith, before));
  }),
)

-- `set pins, 1`, `out pins, 1` with autopull, which waits for one tick: its late tick, in clock 2, is that of the to-edge
late_fall : ℕ → Mark
late_fall = marks_in (span_of true false 0 9 (omega arith) (omega arith) []) (block_of pulling refl (57345 ∷ 24577 ∷ []) 0) (record { clock = 0; act = Tx 0 0 } ∷ [])

late_fall-row : ((late_fall 0).from ≡ true) × ((late_fall 1).to ≡ false) × ((late_fall 1).strays ≡ false) × ((late_fall 2).to ≡ true) × ((late_fall 2).strays ≡ true)
unfolding late_fall mark_of counted hosted_at hosted_next next stepped acted settled_slot is_tick settled merged reading_of act_of push_or_pull_at delay_of side_of set_at mov_at effect_of jmp_effect out_effect pull_effect set_effect mov_effect settled_ports tick_of tick_delay tick_word tick_by after_effect due_in transfers_after requests_of
late_fall-row = (refl, refl, refl, refl, refl)

one_clock : (c : ℕ) → 0 < c → c < 2 → (late_fall c).to ≡ false
one_clock zero after before = absurd (omega (arith, after))
one_clock (suc zero) after before = late_fall-row.1
one_clock (suc (suc c)) after before = absurd (omega (arith, before))

-- a late tick in the clock of the to-edge is one too many
late_fall-breaks : HoldsFrom Ticks 0 (Some 9) late_fall 3 0 → ⊥
unfolding late_fall
late_fall-breaks h = both_ways _ (h.strays refl 2 (omega arith) (omega arith) one_clock ((plain_spoken _ _ _ _ _ Ticks 0 3 (plain refl refl refl)).1 tt)) late_fall-row.4

-- `out pins, 1` with autopull, which waits for two ticks, and `set pins, 0`: its last late tick, in clock 2, is that of the from-edge
late_rise : ℕ → Mark
late_rise = marks_in (span_of true false 1 1 (omega arith) (omega arith) []) (block_of pulling refl (24577 ∷ 57344 ∷ []) 0) (record { clock = 0; act = Tx 0 1 } ∷ [])

late_rise-row : ((late_rise 2).from ≡ true) × ((late_rise 2).strays ≡ true) × ((late_rise 3).to ≡ true) × ((late_rise 3).strays ≡ false) × (counted late_rise 2 4 ≡ 1)
unfolding late_rise mark_of counted hosted_at hosted_next next stepped acted settled_slot is_tick settled merged reading_of act_of push_or_pull_at delay_of side_of set_at mov_at effect_of jmp_effect out_effect pull_effect set_effect mov_effect settled_ports tick_of tick_delay tick_word tick_by after_effect due_in transfers_after requests_of
late_rise-row = (refl, refl, refl, refl, refl)

between : (P : ℕ → Type 0) → P 3 → (c : ℕ) → 2 < c → c < 4 → P c
between P three c after before = let e : 3 ≡ c = omega (arith, after, before) in subst P e three

-- a late tick in the clock of the from-edge isn't
late_rise-holds : HoldsFrom Ticks 1 (Some 1) late_rise 4 2
late_rise-holds = record {
  least = λ e to before spoken. between (λ c. 1 ≤ counted late_rise 2 (suc c)) (omega (arith, late_rise-row.4)) e to.after before;
  most = λ e to before spoken. between (λ c. counted late_rise 2 (suc c) ≤ 1) (omega (arith, late_rise-row.4)) e to.after before;
  unclosed = λ quiet spoken. absurd (both_ways _ (quiet 3 (omega arith) (omega arith)) late_rise-row.2);
  strays = λ some c after before quiet spoken. between (λ k. (late_rise k).strays ≡ false) late_rise-row.3 c after before;
}

-- `set pins, 1 [2]`, `set pins, 0`: from a rise to the next one, which is both an end and a new begin
periods : ℕ → Mark
periods = marks_in (span_of true true 4 4 (omega arith) (omega arith) []) (block_of (record plain_machine { wrap_top = 1; wrap_top_in_memory = omega arith }) refl (57857 ∷ 57344 ∷ []) 0) []

periods-row : ((periods 0).from ≡ true) × ((periods 4).to ≡ true) × ((periods 4).from ≡ true) × (counted periods 0 5 ≡ 4)
unfolding periods mark_of counted hosted_at hosted_next next stepped acted settled_slot is_tick settled merged reading_of act_of push_or_pull_at delay_of side_of set_at mov_at effect_of jmp_effect out_effect pull_effect set_effect mov_effect settled_ports tick_of tick_delay tick_word tick_by after_effect due_in transfers_after requests_of
periods-row = (refl, refl, refl, refl)

-- `set pins, 1`, `jmp 1`: the pin never falls, and the count goes on
endless : ℕ → Mark
endless = marks_in (span_of true false 0 100 (omega arith) (omega arith) []) (block_of plain_machine refl (57345 ∷ 1 ∷ []) 0) []

endless-row : ((endless 0).from ≡ true) × ((endless 9).to ≡ false) × (counted endless 0 10 ≡ 9)
unfolding endless mark_of counted hosted_at hosted_next next stepped acted settled_slot is_tick settled merged reading_of act_of push_or_pull_at delay_of side_of set_at mov_at effect_of jmp_effect out_effect pull_effect set_effect mov_effect settled_ports tick_of tick_delay tick_word tick_by after_effect due_in transfers_after requests_of
endless-row = (refl, refl, refl)

-- the PULL that waits, of a span that speaks of no from-edge after which its machine waits, with a divider of 2: ticks come in the
-- even clocks
slow : Setup
slow = block_of (record plain_machine { side_rule = side_one; side = pin_0; int = 2; wrap_top = 1; wrap_top_in_memory = omega arith; divides = refl }) refl (37024 ∷ 41026 ∷ []) 0

prompted : ℕ → Mark
prompted = marks_in (prompt_of []) slow (record { clock = 3; act = Tx 0 7 } ∷ [])

-- it begins in clock 0, and waits from clock 1 on, in which it has no tick; its late ticks come in the clocks 2 and 4
prompted-row : ((prompted 0).from ≡ true) × ((prompted 0).excused ≡ false) × ((prompted 1).excused ≡ true) × ((prompted 1).counts ≡ false) × ((prompted 4).excused ≡ true) × ((prompted 5).excused ≡ false) × ((prompted 6).to ≡ true) × ((prompted 6).excused ≡ false)
unfolding slow prompted mark_of counted hosted_at hosted_next next stepped acted settled_slot is_tick settled merged reading_of act_of push_or_pull_at delay_of side_of set_at mov_at effect_of jmp_effect out_effect pull_effect set_effect mov_effect settled_ports tick_of tick_delay tick_word tick_by after_effect due_in transfers_after requests_of
prompted-row = (refl, refl, refl, refl, refl, refl, refl, refl)

-- so in both units nothing is said of its high time
prompted-unspoken : IsSpokenOf Clocks prompted 0 7 → ⊥
prompted-unspoken h = both_ways _ (h.free 1 (omega arith) (omega arith)) prompted-row.2

-- where the address is named it isn't excused
prompted_named : ℕ → Mark
prompted_named = marks_in (prompt_of (0 ∷ [])) waiting []

prompted_named-row : ((prompted_named 0).excused ≡ false) × ((prompted_named 1).excused ≡ false)
unfolding waiting prompted_named mark_of counted hosted_at hosted_next next stepped acted settled_slot is_tick settled merged reading_of act_of push_or_pull_at delay_of side_of set_at mov_at effect_of jmp_effect out_effect pull_effect set_effect mov_effect settled_ports tick_of tick_delay tick_word tick_by after_effect due_in transfers_after requests_of
prompted_named-row = (refl, refl)

-- ways through the PULL are left out: it comes to it in clock 0, and then waits at it
left_out_while_it_waits : ℕ → Mark
left_out_while_it_waits = marks_in (without_of (0 ∷ [])) waiting []

left_out_while_it_waits-row : ((left_out_while_it_waits 0).excused ≡ true) × ((left_out_while_it_waits 1).excused ≡ false)
unfolding waiting left_out_while_it_waits mark_of counted hosted_at hosted_next next stepped acted settled_slot is_tick settled merged reading_of act_of push_or_pull_at delay_of side_of set_at mov_at effect_of jmp_effect out_effect pull_effect set_effect mov_effect settled_ports tick_of tick_delay tick_word tick_by after_effect due_in transfers_after requests_of
left_out_while_it_waits-row = (refl, refl)

-- `set pins, 1 [2]`, `set pins, 0`, of which the second is left out: it comes to it in clock 3, after the delay
left_out : ℕ → Mark
left_out = marks_in (without_of (1 ∷ [])) (block_of (record plain_machine { wrap_top = 1; wrap_top_in_memory = omega arith }) refl (57857 ∷ 57344 ∷ []) 0) []

left_out-row : ((left_out 0).excused ≡ false) × ((left_out 1).excused ≡ false) × ((left_out 2).excused ≡ false) × ((left_out 3).excused ≡ true) × ((left_out 3).to ≡ true) × ((left_out 4).excused ≡ false)
unfolding left_out mark_of counted hosted_at hosted_next next stepped acted settled_slot is_tick settled merged reading_of act_of push_or_pull_at delay_of side_of set_at mov_at effect_of jmp_effect out_effect pull_effect set_effect mov_effect settled_ports tick_of tick_delay tick_word tick_by after_effect due_in transfers_after requests_of
left_out-row = (refl, refl, refl, refl, refl, refl)

-- the same of one that is disabled in clock 3, and so never has this tick
left_out_disabled : ℕ → Mark
left_out_disabled = marks_in (without_of (1 ∷ [])) (block_of (record plain_machine { wrap_top = 1; wrap_top_in_memory = omega arith }) refl (57857 ∷ 57344 ∷ []) 0) (record { clock = 3; act = Disable 0 } ∷ [])

left_out_disabled-row : ((left_out_disabled 3).excused ≡ true) × ((left_out_disabled 3).counts ≡ false) × ((left_out_disabled 5).excused ≡ true)
unfolding left_out_disabled mark_of counted hosted_at hosted_next next stepped acted settled_slot is_tick settled merged reading_of act_of push_or_pull_at delay_of side_of set_at mov_at effect_of jmp_effect out_effect pull_effect set_effect mov_effect settled_ports tick_of tick_delay tick_word tick_by after_effect due_in transfers_after requests_of
left_out_disabled-row = (refl, refl, refl)

-- `set pindirs, 0`, `set pindirs, 1` with pin 0 out and high: it becomes in in clock 0, and out in clock 1, and its level stays
turning : Setup
turning = block_of (record plain_machine { wrap_top = 1; wrap_top_in_memory = omega arith }) refl (57472 ∷ 57473 ∷ []) 1

turns : ℕ → Mark
turns = marks_in (turn_of false true) turning []

level_of_turns : ℕ → Mark
level_of_turns = marks_in (span_of false true 0 9 (omega arith) (omega arith) []) turning []

turns-row : ((turns 0).from ≡ true) × ((turns 0).to ≡ false) × ((turns 1).from ≡ false) × ((turns 1).to ≡ true) × ((level_of_turns 0).from ≡ false) × ((level_of_turns 1).to ≡ false)
unfolding turning turns level_of_turns mark_of counted hosted_at hosted_next next stepped acted settled_slot is_tick settled merged reading_of act_of push_or_pull_at delay_of side_of set_at mov_at effect_of jmp_effect out_effect pull_effect set_effect mov_effect settled_ports tick_of tick_delay tick_word tick_by after_effect due_in transfers_after requests_of
turns-row = (refl, refl, refl, refl, refl, refl)

-- of `set pins, 1`, `set pins, 0` the direction stays
turns_of_levels : ℕ → Mark
turns_of_levels = marks_in (turn_of true false) fast []

turns_of_levels-row : ((turns_of_levels 0).from ≡ false) × ((turns_of_levels 1).to ≡ false)
unfolding fast turns_of_levels mark_of counted hosted_at hosted_next next stepped acted settled_slot is_tick settled merged reading_of act_of push_or_pull_at delay_of side_of set_at mov_at effect_of jmp_effect out_effect pull_effect set_effect mov_effect settled_ports tick_of tick_delay tick_word tick_by after_effect due_in transfers_after requests_of
turns_of_levels-row = (refl, refl)

-- a machine that stands somewhere, of which a span with `without` or `prompt` asks no more than this
stands : (pc delay : ℕ) → Option ℕ → Bool → Flow
stands pc delay pending begun = record { pc = pc; x = 0; y = 0; delay = delay; pending = pending; begun = begun }

-- it comes to 3 next, where ways are left out; and not where a delay is left, a word is pending, it waits there already, or it comes
-- to 4
comes-row : (is_excused_in (without_of (5 ∷ 3 ∷ [])) (stands 3 0 None false) ≡ true) × (is_excused_in (without_of (3 ∷ [])) (stands 3 1 None false) ≡ false) × (is_excused_in (without_of (3 ∷ [])) (stands 3 0 (Some 7) false) ≡ false) × (is_excused_in (without_of (3 ∷ [])) (stands 3 0 None true) ≡ false) × (is_excused_in (without_of (3 ∷ [])) (stands 4 0 None false) ≡ false)
unfolding stands
comes-row = (refl, refl, refl, refl, refl)

-- it waits at 3; and not where it comes to it, where 3 is named, or of a span without `prompt`
waits-row : (is_excused_in (prompt_of (4 ∷ [])) (stands 3 0 None true) ≡ true) × (is_excused_in (prompt_of []) (stands 3 0 None false) ≡ false) × (is_excused_in (prompt_of (4 ∷ 3 ∷ [])) (stands 3 0 None true) ≡ false) × (is_excused_in (span_of true false 1 1 (omega arith) (omega arith) []) (stands 3 0 None true) ≡ false)
unfolding stands
waits-row = (refl, refl, refl, refl)
