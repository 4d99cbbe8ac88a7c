-- What the machines did in a clock, by how they stood before it and stand after it.
use Rattle.std.proofs.Common.{◌≡◌, ℕ, zero, suc, ◌+◌, ◌-◌, ◌*◌, ◌/◌, ◌<◌, ◌≤◌, ◌==◌, Bool, true, false, not, ◌&&◌, ◌||◌, Option, Some, None, option_map, List, [], ◌∷◌, map, cond, nat_lt, slice_index_or, refl, sym, ap, ◌∙◌, arith, subst}
use Rattle.std.proofs.lemmas.Bool.{or_parts}
use Rattle.std.proofs.lemmas.Bool.Decides.{nat_tests}
use Rattle.std.proofs.lemmas.Nat.{div_below}
use Rattle.std.specs.List.{list_any}
use Rattle.clock_divider.specs.Ticks.{is_tick}
use Rattle.pio_encode.specs.Word.{reading_of}
use Rattle.sm_registers.specs.declared.intent.Kind.{Kind}
use Rattle.sm_registers.specs.declared.intent.Kind.TheVariants.{Off, First, Late, Delay}
use Rattle.sm_registers.specs.Idling.{begins, finishes, stirs}
use Rattle.sm_registers.specs.Intents.{no_intent}
use Rattle.sm_registers.specs.State.{queues_of}
use Rattle.sm_registers.specs.Tick.{current_word, tick_by, tick_delay, tick_of, tick_word}
use Rattle.sm_registers.specs.View.{View}
use Rattle.dreq_pacing.specs.declared.due.Due.{Due}
use Rattle.dreq_pacing.specs.Due.{quiet}
use Rattle.block_core.specs.Block.{BlockState, Run, Worked, next, pads_in, run_from, seen_in, stepped, view_of}
use Rattle.block_core.specs.declared.conduct.Conduct.{Conduct}
use Rattle.block_core.specs.declared.conduct.Standing.{Standing}
use Rattle.block_core.specs.Conduct.{Told, after_in, are_places_noted, concluded, concluded_places, conduct_after, conduct_by, conduct_in, has_new_pins, is_lined_by, is_machine_noted, is_noted, is_noted_by, is_standing_noted, machine_conduct, standing_in, standings_in}
use Rattle.block_core.specs.Inside.{is_of_an_instruction, machine_inside}
use Rattle.block_core.specs.Leaps.{leapt}
use Rattle.block_core.specs.Slots.{Slot, acted, has_tick, lined, place_after, place_intent, slot_after, slot_intent}
use Rattle.block_core.specs.Stirring.{machines_stir_over, moves_on, pads_change_over}
use Rattle.block_core.proofs.Insides.{waits_after}
use Rattle.block_core.proofs.LeaptRun.{no_line}

-- a divider that restarts has a tick at once
ticks-restarted : (period clock : ℕ) → is_tick clock period clock ≡ true
unfolding is_tick
ticks-restarted zero clock = let none : clock - clock ≡ 0 = omega arith in rw none (grind (arith, nat_tests))
ticks-restarted (suc n) clock =
    let none : clock - clock ≡ 0 = omega arith in
    let few = div_below (0 * 256 + (suc n - 1)) (suc n) 1 (omega arith) (omega arith) in
    let once : (0 * 256 + (suc n - 1)) / suc n ≡ 0 = omega (arith, few) in
    rw (none, once) (grind (arith, nat_tests))

enabled_is : (a b e : Bool) → (a || (not b && e)) ≡ cond a true (cond b false e)
enabled_is true b e = refl
enabled_is false true e = refl
enabled_is false false e = refl

pub lined_tick : (d : Due) (s : Slot) (place : ℕ) (now : Bool) → now ≡ is_tick s.timing.restarted s.timing.period s.timing.clock → place ≡ s.machine.setup.id → ((slice_index_or d.enable place false || (not (slice_index_or d.disable place false) && s.enabled)) && (slice_index_or d.restart place false || now)) ≡ has_tick (lined d s)
lined_tick d s place now is_now id =
    rw (id, is_now, enabled_is (slice_index_or d.enable s.machine.setup.id false) (slice_index_or d.disable s.machine.setup.id false) s.enabled)
    (elim (slice_index_or d.restart s.machine.setup.id false) as (λ b. (e && (b || is_tick s.timing.restarted s.timing.period s.timing.clock)) ≡ (e && is_tick (cond b (record s.timing { restarted = s.timing.clock }) s.timing).restarted (cond b (record s.timing { restarted = s.timing.clock }) s.timing).period (cond b (record s.timing { restarted = s.timing.clock }) s.timing).clock)) [
      | true ↦ ap (λ (b : Bool). e && b) (sym (ticks-restarted s.timing.period s.timing.clock))
      | false ↦ refl
    ])
  where
    e : Bool
    e = cond (slice_index_or d.enable s.machine.setup.id false) true (cond (slice_index_or d.disable s.machine.setup.id false) false s.enabled)

-- which tick of its instruction a machine has: none, one of a delay, a late or the first one
abbrev kind_by : (ticks delays begun : Bool) → Kind
kind_by true true begun = Delay
kind_by true false true = Late
kind_by true false false = First
kind_by false delays begun = Off

word_kind : (begun : Bool) → cond begun Late First ≡ kind_by true false begun
word_kind true = refl
word_kind false = refl

kind_acted : (v : View) (s : Slot) → (acted v s).1.kind ≡ kind_by (has_tick s) (nat_lt 0 s.machine.registers.delay) s.machine.registers.begun
unfolding acted tick_of tick_delay tick_word tick_by
kind_acted v s =
    let m = s.machine in
    let r = m.registers in
    let q = queues_of m.ports.fifos in
    let op = reading_of (current_word v r) m.setup.side_rule in
    elim (has_tick s) as (λ b. (cond b (tick_of m.setup v q r) (r, no_intent)).1.kind ≡ kind_by b (nat_lt 0 r.delay) r.begun) [
      | true ↦ elim (nat_lt 0 r.delay) as (λ b. (cond b (tick_delay m.setup q r) (tick_word op m.setup v q r)).1.kind ≡ kind_by true b r.begun) [
        | true ↦ refl
        | false ↦ word_kind r.begun
      ]
      | false ↦ refl
    ]

-- what such a tick says
acts_is : (ticks delays begun : Bool) → (ticks && not delays) ≡ is_of_an_instruction (kind_by ticks delays begun)
acts_is true true begun = refl
acts_is true false true = refl
acts_is true false false = refl
acts_is false delays begun = refl

finishes_is : (ticks delays begun stalled waits : Bool) → waits ≡ cond (is_of_an_instruction (kind_by ticks delays begun)) stalled begun → ((ticks && not delays) && not waits) ≡ finishes (kind_by ticks delays begun) stalled
finishes_is true true begun stalled waits h = refl
finishes_is true false true stalled waits h = ap not h
finishes_is true false false stalled waits h = ap not h
finishes_is false delays begun stalled waits h = refl

notes_is : (ticks delays begun stalled waits : Bool) → waits ≡ cond (is_of_an_instruction (kind_by ticks delays begun)) stalled begun → ((ticks && not delays) && (not begun || not waits)) ≡ (begins (kind_by ticks delays begun) || finishes (kind_by ticks delays begun) stalled)
notes_is true true begun stalled waits h = refl
notes_is true false true stalled waits h = ap not h
notes_is true false false stalled waits h = refl
notes_is false delays begun stalled waits h = refl

no_delay : (n : ℕ) → (n == 0) ≡ not (nat_lt 0 n)
no_delay n = grind (arith, nat_tests)

-- whether a machine waits after a clock
begun_after : (v : View) (d : Due) (s : Slot) → (slot_after v d s).machine.registers.begun ≡ cond (is_of_an_instruction (slot_intent v d s).kind) (slot_intent v d s).stalled s.machine.registers.begun
unfolding machine_inside
begun_after v d s = waits_after [] v d s

-- what is so of one machine: the tick that it has, whether it finishes, and whether that is of note
record IsTold (v : View) (d : Due) (s : Slot) (ticks waits : Bool) : Type 0 where
  acts : ticks ≡ is_of_an_instruction (slot_intent v d s).kind
  ends : (ticks && not waits) ≡ finishes (slot_intent v d s).kind (slot_intent v d s).stalled
  notes : (ticks && (not s.machine.registers.begun || not waits)) ≡ (begins (slot_intent v d s).kind || finishes (slot_intent v d s).kind (slot_intent v d s).stalled)

is_told : (v : View) (d : Due) (s : Slot) (kind : Kind) (waits : Bool) → (slot_intent v d s).kind ≡ kind → kind ≡ kind_by (has_tick (lined d s)) (nat_lt 0 s.machine.registers.delay) s.machine.registers.begun → waits ≡ cond (is_of_an_instruction kind) (slot_intent v d s).stalled s.machine.registers.begun → IsTold v d s (has_tick (lined d s) && (s.machine.registers.delay == 0)) waits
is_told v d s kind waits of is h =
    let r = s.machine.registers in
    let t = has_tick (lined d s) in
    let l = nat_lt 0 r.delay in
    let stalled = (slot_intent v d s).stalled in
    let h : waits ≡ cond (is_of_an_instruction (kind_by t l r.begun)) stalled r.begun = h ∙ ap (λ (k : Kind). cond (is_of_an_instruction k) stalled r.begun) is in
    let z = no_delay r.delay in
    record {
      acts = ap (λ (b : Bool). t && b) z ∙ acts_is t l r.begun ∙ ap is_of_an_instruction (sym (of ∙ is));
      ends = ap (λ (b : Bool). (t && b) && not waits) z ∙ finishes_is t l r.begun stalled waits h ∙ ap (λ (k : Kind). finishes k stalled) (sym (of ∙ is));
      notes = ap (λ (b : Bool). (t && b) && (not r.begun || not waits)) z ∙ notes_is t l r.begun stalled waits h ∙ ap (λ (k : Kind). begins k || finishes k stalled) (sym (of ∙ is));
    }

told : (v : View) (d : Due) (s : Slot) → IsTold v d s (has_tick (lined d s) && (s.machine.registers.delay == 0)) (slot_after v d s).machine.registers.begun
told v d s = is_told v d s _ _ refl (kind_acted v (lined d s)) (begun_after v d s)

slot_concluded : (clock : ℕ) (v : View) (d : Due) (s : Slot) → concluded (standing_in d s) (after_in clock (slot_after v d s)) ≡ machine_conduct clock v d s
unfolding standing_in after_in machine_conduct
slot_concluded clock v d s =
    let t = told v d s in
    rw (t.ends, t.acts) refl

slot_noted : (clock : ℕ) (v : View) (d : Due) (s : Slot) → is_standing_noted (standing_in d s) (after_in clock (slot_after v d s)).waits ≡ is_machine_noted v d (Some s)
unfolding standing_in after_in
slot_noted clock v d s = ap (λ (b : Bool). is_lined_by d s.machine.setup.id || b) (told v d s).notes

-- the same of all places
places_concluded : (clock : ℕ) (v : View) (d : Due) (places : List (Option Slot)) → concluded_places (map (option_map (standing_in d)) places) (map (option_map (after_in clock)) (map (place_after v d) places)) ≡ map (option_map (machine_conduct clock v d)) places
places_concluded clock v d [] = refl
places_concluded clock v d (None ∷ places) = ap (λ rest. None ∷ rest) (places_concluded clock v d places)
places_concluded clock v d (Some s ∷ places) = rw (slot_concluded clock v d s, places_concluded clock v d places) refl

places_noted : (clock : ℕ) (v : View) (d : Due) (places : List (Option Slot)) → are_places_noted (map (option_map (standing_in d)) places) (map (option_map (after_in clock)) (map (place_after v d) places)) ≡ list_any (is_machine_noted v d) places
places_noted clock v d [] = refl
places_noted clock v d (None ∷ places) = places_noted clock v d places
places_noted clock v d (Some s ∷ places) = rw (slot_noted clock v d s, places_noted clock v d places) refl

-- the same of a run
pub clock_next : (d : Due) (r : Run) → (next d r).clock ≡ r.clock + 1
unfolding next
clock_next d r = refl

machines_next : (d : Due) (r : Run) → (next d r).state.machines ≡ map (place_after (view_of r.memory (seen_in d r) r.state) d) r.state.machines
unfolding next stepped
machines_next d r = refl

pub noted_next : (d : Due) (r : Run) → is_noted_by r.clock r.state.levels r.state.directions (standings_in d r.state) (next d r).state ≡ is_noted d r
unfolding is_noted
noted_next d r =
    ap (λ (b : Bool). b || has_new_pins r.state (next d r).state)
    (ap (λ (places : List (Option Slot)). are_places_noted (standings_in d r.state) (map (option_map (after_in r.clock)) places)) (machines_next d r)
    ∙ places_noted r.clock (view_of r.memory (seen_in d r) r.state) d r.state.machines)

pub conduct_next : (d : Due) (r : Run) → conduct_by r.clock (standings_in d r.state) (next d r).state ≡ conduct_in d r
unfolding conduct_in
conduct_next d r =
    let machines =
    ap (λ (places : List (Option Slot)). concluded_places (standings_in d r.state) (map (option_map (after_in r.clock)) places)) (machines_next d r)
    ∙ places_concluded r.clock (view_of r.memory (seen_in d r) r.state) d r.state.machines
    in
    rw machines refl

-- a machine that doesn't stir does nothing of note
calm_place : (v : View) (place : Option Slot) → stirs (place_intent v quiet place) ≡ false → is_machine_noted v quiet place ≡ false
calm_place v None h = refl
calm_place v (Some s) h =
    let i = slot_intent v quiet s in
    let parts = or_parts (begins i.kind) (finishes i.kind i.stalled || i.take) h in
    let ends = or_parts (finishes i.kind i.stalled) i.take parts.1 in
    rw (no_line s.machine.setup.id, parts.0, ends.0) refl

calm_places : (v : View) (places : List (Option Slot)) → list_any stirs (map (place_intent v quiet) places) ≡ false → list_any (is_machine_noted v quiet) places ≡ false
calm_places v [] h = refl
calm_places v (place ∷ places) h =
    let parts = or_parts (stirs (place_intent v quiet place)) (list_any stirs (map (place_intent v quiet) places)) h in
    rw (calm_place v place parts.0, calm_places v places parts.1) refl

calm_machines : (r : Run) → moves_on quiet r ≡ false → list_any (is_machine_noted (view_of r.memory (seen_in quiet r) r.state) quiet) r.state.machines ≡ false
unfolding moves_on
calm_machines r h =
    let parts = or_parts (machines_stir_over (pads_in quiet r.state) quiet r) (pads_change_over (pads_in quiet r.state) r) h in
    calm_places (view_of r.memory (seen_in quiet r) r.state) r.state.machines parts.0

same : (n : ℕ) → (n == n) ≡ true
same n = grind (arith, nat_tests)

-- nor is a clock of note in which no machine stirs and the pins stay
calm_noted : (r : Run) → moves_on quiet r ≡ false → (next quiet r).state.levels ≡ r.state.levels → (next quiet r).state.directions ≡ r.state.directions → is_noted quiet r ≡ false
unfolding is_noted
calm_noted r h levels directions = rw (calm_machines r h, levels, directions, same r.state.levels, same r.state.directions) refl

pub none_noted : (r : Run) (clocks : ℕ) → ((k : ℕ) → k < clocks → moves_on quiet (run_from r (λ c. quiet) k) ≡ false) → ((k : ℕ) → k ≤ clocks → run_from r (λ c. quiet) k ≡ leapt k r) → (k : ℕ) → k < clocks → is_noted quiet (run_from r (λ c. quiet) k) ≡ false
unfolding run_from leapt
none_noted r clocks calm rests k below =
    let now = rests k (omega arith) in
    let then = rests (suc k) (omega arith) in
    calm_noted (run_from r (λ c. quiet) k) (calm k below)
    (ap (λ (x : Run). x.state.levels) then ∙ sym (ap (λ (x : Run). x.state.levels) now))
    (ap (λ (x : Run). x.state.directions) then ∙ sym (ap (λ (x : Run). x.state.directions) now))

-- what a block keeps of a clock that it worked out
pub after-note : (d : Due) (w : Worked) (last now : Conduct) (t : Told) (clock : ℕ) (pins : ℕ × ℕ) (before : List (Option Standing)) (after : BlockState) (noted : Bool) → record { worked = w; last = last } ≡ t → t.worked.run.clock ≡ clock → pins ≡ (w.run.state.levels, w.run.state.directions) → before ≡ standings_in d w.run.state → after ≡ (next d w.run).state → noted ≡ is_noted_by clock pins.0 pins.1 before after → now ≡ cond noted (conduct_by clock before after) last → (noted ≡ is_noted d t.worked.run) × (now ≡ conduct_after d t.worked.run t.last)
after-note d w last now t clock pins before after noted is at is_pins stood is_after is_noted_now is_now =
    let r = w.run in
    let at : clock ≡ r.clock = sym (ap (λ (t : Told). t.worked.run.clock) is ∙ at) in
    let notes : is_noted_by clock pins.0 pins.1 before after ≡ is_noted d r = rw (at, is_pins, stood, is_after) (noted_next d r) in
    let told : conduct_by clock before after ≡ conduct_in d r = rw (at, stood, is_after) (conduct_next d r) in
    subst (λ (t : Told). (noted ≡ is_noted d t.worked.run) × (now ≡ conduct_after d t.worked.run t.last)) is
    (is_noted_now ∙ notes, is_now ∙ rw (is_noted_now ∙ notes, told) refl)
