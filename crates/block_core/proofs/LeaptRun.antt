-- A clock in which nothing stirs and the system does nothing, and many of them.
use Rattle.std.proofs.Common.{◌≡◌, ℕ, zero, suc, ◌+◌, ◌-◌, ◌<◌, ◌==◌, Bool, true, false, not, ◌&&◌, Option, Some, None, List, [], ◌∷◌, ◌++◌, map, cond, slice_index_or, bit_or, refl, ap, sym, ◌∙◌, subst, arith, add-one}
use Rattle.std.proofs.lemmas.Bool.Decides.{nat_tests}
use Rattle.std.specs.Int.Bits.{or_zero_l, or_zero_r}
use Rattle.std.specs.List.{AllByRecursion, list_any}
use Rattle.std.proofs.lemmas.Bool.{or_parts}
use Rattle.clock_divider.specs.Ticks.{is_tick, tick_count}
use Rattle.pin_matrix.specs.Pads as pads
use Rattle.pin_matrix.specs.Pads.{Synchroniser}
use Rattle.pin_matrix.specs.Pins.{merged}
use Rattle.sm_registers.specs.declared.registers.Registers.{Registers}
use Rattle.sm_registers.specs.View.{View}
use Rattle.sm_registers.specs.declared.intent.Intent.{Intent}
use Rattle.sm_registers.specs.Intents.{no_intent, two_writes}
use Rattle.sm_registers.specs.Idling.{stirs, only_waits}
use Rattle.sm_registers.specs.State.{queues_of, settled_ports}
use Rattle.sm_registers.specs.Tick.{tick_of}
use Rattle.sm_registers.specs.StallFlags.{AreUp}
use Rattle.dreq_pacing.specs.Due.{quiet, no_machine}
use Rattle.block_core.specs.Block.{BlockState, Run, next, next_over, stepped, run_from, view_of, seen_over, pads_in, level_writes, direction_writes, with_all}
use Rattle.block_core.specs.Kept.{memory_alone, IsTold, AreTold}
use Rattle.block_core.specs.Leaps.{CalmLaws, ticks_in, leapt_slot, leapt_place, leapt}
use Rattle.block_core.specs.Slots.{Slot, lined, has_tick, acted, settled_slot, slot_after, place_after, place_intent}
use Rattle.block_core.specs.Stirring.{moves_on, moves_on_over, machines_stir_over, pads_change_over}
use Rattle.block_core.proofs.PlacesTold.{known_in, told_leapt}

-- nothing is done at any place
pub no_line : (id : ℕ) → slice_index_or no_machine id false ≡ false
no_line zero = refl
no_line (suc zero) = refl
no_line (suc (suc zero)) = refl
no_line (suc (suc (suc zero))) = refl
no_line (suc (suc (suc (suc id)))) = refl

pub no_word : (id : ℕ) → slice_index_or quiet.word id None ≡ None
no_word zero = refl
no_word (suc zero) = refl
no_word (suc (suc zero)) = refl
no_word (suc (suc (suc zero))) = refl
no_word (suc (suc (suc (suc id)))) = refl

pub lined_quiet : (s : Slot) → lined quiet s ≡ s
lined_quiet s = rw (no_line s.machine.setup.id) refl

-- a slot with these registers one clock on
abbrev pub clock_on : Slot → Registers → Slot
clock_on s r = record s {
  machine = record s.machine { registers = r };
  timing = record s.timing { clock = s.timing.clock + 1 };
}

settled_calm : CalmLaws → (s : Slot) (x : Registers × Intent) (r : Registers) (i : Intent) → x ≡ (r, only_waits i) → AreUp i.sticky s.machine.ports.sticky → settled_slot quiet x s ≡ clock_on s r
unfolding settled_slot settled_ports
settled_calm laws s x r i e up =
    rw (e, no_line s.machine.setup.id, no_word s.machine.setup.id, laws.fifos s.machine.ports.fifos, up, or_zero_l s.machine.ports.sticky) refl

-- what a machine does in a clock in which it doesn't stir
record IsCalm (s : Slot) (counted : ℕ) (x : Registers × Intent) : Type 0 where
  acts : x ≡ (record s.machine.registers { delay = s.machine.registers.delay - counted }, only_waits x.1)
  up : AreUp x.1.sticky s.machine.ports.sticky

acted_calm : CalmLaws → (v : View) (s : Slot) → IsTold v.memory (Some s) → stirs (acted v s).1 ≡ false → IsCalm s (cond (has_tick s) 1 0) (acted v s)
unfolding acted
acted_calm laws v s told h =
    let m = s.machine in
    let known = known_in (memory_alone v.memory) v m.setup m.registers m.ports.sticky refl told in
    let q = queues_of m.ports.fifos in
    let tick = tick_of m.setup v q m.registers in
    let none : Registers × Intent = (m.registers, no_intent) in
    (elim (has_tick s) as (λ b. stirs (cond b tick none).1 ≡ false → IsCalm s (cond b 1 0) (cond b tick none)) [
      | true ↦ λ calm. record {
        acts = laws.counts m.setup v q m.registers calm;
        up = laws.tells m.setup v q m.registers m.ports.sticky known calm;
      }
      | false ↦ λ calm. let left : m.registers.delay - 0 ≡ m.registers.delay = omega arith in record {
        acts = rw left refl;
        up = or_zero_l m.ports.sticky;
      }
    ]) h

-- how many ticks there are in one clock
one_tick : (enabled : Bool) (restarted period clock : ℕ) → cond enabled (tick_count restarted period clock 1) 0 ≡ cond (enabled && is_tick restarted period clock) 1 0
unfolding tick_count
one_tick true restarted period clock =
    let now : clock + 0 ≡ clock = omega arith in
    let first : (n : ℕ) → 0 + n ≡ n = λ (n : ℕ). omega arith in
    first (cond (is_tick restarted period (clock + 0)) 1 0) ∙ ap (λ c. cond (is_tick restarted period c) 1 0) now
one_tick false restarted period clock = refl

ticks_one : (s : Slot) → ticks_in 1 s ≡ cond (has_tick s) 1 0
ticks_one s = one_tick s.enabled s.timing.restarted s.timing.period s.timing.clock

slot_leaps : CalmLaws → (v : View) (s : Slot) → IsTold v.memory (Some s) → stirs (acted v (lined quiet s)).1 ≡ false → slot_after v quiet s ≡ leapt_slot 1 s
slot_leaps laws v s told h =
    let calm = acted_calm laws v s told (subst (λ t. stirs (acted v t).1 ≡ false) (lined_quiet s) h) in
    ap (λ t. settled_slot quiet (acted v t) t) (lined_quiet s)
    ∙ settled_calm laws s (acted v s) _ (acted v s).1 calm.acts calm.up
    ∙ ap (λ n. clock_on s (record s.machine.registers { delay = s.machine.registers.delay - n })) (sym (ticks_one s))

-- what a place wants that doesn't stir
only_waits_if : CalmLaws → (v : View) (s : Slot) → IsTold v.memory (Some s) → stirs (acted v (lined quiet s)).1 ≡ false → (acted v (lined quiet s)).1 ≡ only_waits (acted v (lined quiet s)).1
only_waits_if laws v s told h =
    let calm = acted_calm laws v s told (subst (λ t. stirs (acted v t).1 ≡ false) (lined_quiet s) h) in
    subst (λ t. (acted v t).1 ≡ only_waits (acted v t).1) (sym (lined_quiet s)) (ap (λ (x : Registers × Intent). x.1) calm.acts)

-- all places rest
places_leap : CalmLaws → (v : View) (places : List (Option Slot)) → AreTold v.memory places → list_any stirs (map (place_intent v quiet) places) ≡ false → map (place_after v quiet) places ≡ map (leapt_place 1) places
places_leap laws v [] told h = refl
places_leap laws v (None ∷ places) told h =
    ap (λ rest. None ∷ rest) (places_leap laws v places told.1 h)
places_leap laws v (Some s ∷ places) told h =
    let parts = or_parts _ (list_any stirs (map (place_intent v quiet) places)) h in
    rw (slot_leaps laws v s told.0 parts.0, places_leap laws v places told.1 parts.1) refl

places_wait : CalmLaws → (v : View) (places : List (Option Slot)) → AreTold v.memory places → list_any stirs (map (place_intent v quiet) places) ≡ false → AllByRecursion (λ i. i ≡ only_waits i) (map (place_intent v quiet) places)
places_wait laws v [] told h = tt
places_wait laws v (None ∷ places) told h = (refl, places_wait laws v places told.1 h)
places_wait laws v (Some s ∷ places) told h =
    let parts = or_parts _ (list_any stirs (map (place_intent v quiet) places)) h in
    (only_waits_if laws v s told.0 parts.0, places_wait laws v places told.1 parts.1)

-- what such places write
levels_stay : (old : ℕ) (intents : List Intent) → AllByRecursion (λ i. i ≡ only_waits i) intents → merged old (level_writes intents) ≡ old
unfolding merged
levels_stay old [] h = refl
levels_stay old (i ∷ intents) h =
    ap (λ (j : Intent). merged old (two_writes j.level ++ level_writes intents)) h.0 ∙ levels_stay old intents h.1

directions_stay : (old : ℕ) (intents : List Intent) → AllByRecursion (λ i. i ≡ only_waits i) intents → merged old (direction_writes intents) ≡ old
unfolding merged
directions_stay old [] h = refl
directions_stay old (i ∷ intents) h =
    ap (λ (j : Intent). merged old (two_writes j.direction ++ direction_writes intents)) h.0 ∙ directions_stay old intents h.1

none_merged : (of : Intent → ℕ) → ((i : Intent) → of (only_waits i) ≡ 0) → (flags : ℕ) (intents : List Intent) → AllByRecursion (λ i. i ≡ only_waits i) intents → with_all flags (map of intents) ≡ flags
none_merged of none flags [] h = refl
none_merged of none flags (i ∷ intents) h =
    ap (λ x. with_all (bit_or flags x) (map of intents)) (ap of h.0 ∙ none i)
    ∙ ap (λ f. with_all f (map of intents)) (or_zero_r flags) ∙ none_merged of none flags intents h.1

-- a state in which no machine stirs
state_leaps : CalmLaws → (memory : List ℕ) (seen : ℕ) (b : BlockState) → AreTold memory b.machines → list_any stirs (map (place_intent (view_of memory seen b) quiet) b.machines) ≡ false → stepped memory seen quiet b ≡ record b { machines = map (leapt_place 1) b.machines }
unfolding stepped
state_leaps laws memory seen b told h =
    let v = view_of memory seen b in
    let waits = places_wait laws v b.machines told h in
    rw (
      places_leap laws v b.machines told h,
      levels_stay b.levels _ waits,
      directions_stay b.directions _ waits,
      none_merged (λ i. i.clears) (λ i. refl) 0 _ waits,
      none_merged (λ i. i.sets) (λ i. refl) 0 _ waits,
      or_zero_l b.flags,
    ) refl

-- pads that don't change leave the synchronisers
both_true : (a b : Bool) → not (a && b) ≡ false → (a ≡ true) × (b ≡ true)
both_true true true h = (refl, refl)
both_true true false h = cc
both_true false b h = cc

is_same : (a b : ℕ) → (a == b) ≡ true → a ≡ b
is_same a b h = grind (arith, nat_tests)

pub pads_same : (pad a b : ℕ) → not ((pad == a) && (pad == b)) ≡ false → (pad ≡ a) × (pad ≡ b)
pads_same pad a b h = let parts = both_true (pad == a) (pad == b) h in (is_same pad a parts.0, is_same pad b parts.1)

sync_leaps : (pad : ℕ) (s : Synchroniser) → not ((pad == s.pad_1) && (pad == s.pad_2)) ≡ false → pads.stepped pad s ≡ s
sync_leaps pad s h =
    let same = pads_same pad s.pad_1 s.pad_2 h in
    rw (sym same.0 ∙ same.1, same.0 ∙ sym same.0 ∙ same.1) refl

pub leaps_once_over : CalmLaws → (pad : ℕ) (r : Run) → AreTold r.memory r.state.machines → moves_on_over pad quiet r ≡ false → next_over pad quiet r ≡ leapt 1 r
unfolding leapt
leaps_once_over laws pad r told h =
    let parts = or_parts (machines_stir_over pad quiet r) (pads_change_over pad r) h in
    rw (state_leaps laws r.memory (seen_over pad r) r.state told parts.0, sync_leaps pad r.synchroniser parts.1) refl

-- the same with the block's own pads
leaps_once : CalmLaws → (r : Run) → AreTold r.memory r.state.machines → moves_on quiet r ≡ false → next quiet r ≡ leapt 1 r
unfolding next moves_on
leaps_once laws r told h = leaps_once_over laws (pads_in quiet r.state) r told h

-- clocks add up
ticks_add : (n : ℕ) (enabled : Bool) (restarted period clock : ℕ) → cond enabled (tick_count restarted period clock (n + 1)) 0
    ≡ cond enabled (tick_count restarted period clock n) 0 + cond enabled (tick_count restarted period (clock + n) 1) 0
unfolding tick_count
ticks_add n true restarted period clock =
    let now : clock + n + 0 ≡ clock + n = omega arith in
    let first : (a b : ℕ) → a + b ≡ a + (0 + b) = λ (a b : ℕ). omega arith in
    ap (λ k. tick_count restarted period clock k) (add-one n)
    ∙ first (tick_count restarted period clock n) (cond (is_tick restarted period (clock + n)) 1 0)
    ∙ ap (λ c. tick_count restarted period clock n + (0 + cond (is_tick restarted period c) 1 0)) (sym now)
ticks_add n false restarted period clock = refl

slot_leaps-once_more : (n : ℕ) (s : Slot) → leapt_slot 1 (leapt_slot n s) ≡ leapt_slot (n + 1) s
slot_leaps-once_more n s =
    let t = s.timing in
    let delay = s.machine.registers.delay in
    let left : (a b c : ℕ) → c ≡ a + b → delay - a - b ≡ delay - c = λ (a b c : ℕ) (e : c ≡ a + b). omega (arith, e) in
    let clock : t.clock + n + 1 ≡ t.clock + (n + 1) = omega arith in
    rw (left (ticks_in n s) (ticks_in 1 (leapt_slot n s)) (ticks_in (n + 1) s) (ticks_add n s.enabled t.restarted t.period t.clock), clock) refl

places_leap-once_more : (n : ℕ) (places : List (Option Slot)) → map (leapt_place 1) (map (leapt_place n) places) ≡ map (leapt_place (n + 1)) places
places_leap-once_more n [] = refl
places_leap-once_more n (None ∷ places) = ap (λ rest. None ∷ rest) (places_leap-once_more n places)
places_leap-once_more n (Some s ∷ places) = rw (slot_leaps-once_more n s, places_leap-once_more n places) refl

pub leapt-once_more : (n : ℕ) (r : Run) → leapt 1 (leapt n r) ≡ leapt (n + 1) r
unfolding leapt
leapt-once_more n r =
    let clock : r.clock + n + 1 ≡ r.clock + (n + 1) = omega arith in
    rw (places_leap-once_more n r.state.machines, clock) refl

no_ticks : (enabled : Bool) (restarted period clock : ℕ) → cond enabled (tick_count restarted period clock 0) 0 ≡ 0
unfolding tick_count
no_ticks true restarted period clock = refl
no_ticks false restarted period clock = refl

slot_leaps-none : (s : Slot) → leapt_slot 0 s ≡ s
slot_leaps-none s =
    let clock : s.timing.clock + 0 ≡ s.timing.clock = omega arith in
    let left : s.machine.registers.delay - 0 ≡ s.machine.registers.delay = omega arith in
    rw (no_ticks s.enabled s.timing.restarted s.timing.period s.timing.clock, clock, left) refl

places_leap-none : (places : List (Option Slot)) → map (leapt_place 0) places ≡ places
places_leap-none [] = refl
places_leap-none (None ∷ places) = ap (λ rest. None ∷ rest) (places_leap-none places)
places_leap-none (Some s ∷ places) = rw (slot_leaps-none s, places_leap-none places) refl

pub leapt-none : (r : Run) → leapt 0 r ≡ r
unfolding leapt
leapt-none r = let clock : r.clock + 0 ≡ r.clock = omega arith in rw (places_leap-none r.state.machines, clock) refl

-- one clock more of a run that has leapt so far
leaps_more : CalmLaws → (r : Run) → AreTold r.memory r.state.machines → (n : ℕ) → run_from r (λ c. quiet) n ≡ leapt n r → moves_on quiet (leapt n r) ≡ false → run_from r (λ c. quiet) (suc n) ≡ leapt (suc n) r
unfolding run_from leapt
leaps_more laws r told n before calm =
    ap (next quiet) before
    ∙ leaps_once laws (leapt n r) (told_leapt r.memory n r.state.machines told) calm
    ∙ leapt-once_more n r
    ∙ ap (λ k. leapt k r) (add-one n)

-- clocks in which nothing stirs, by the run as it goes on, or as it rests
pub rests : CalmLaws → (r : Run) → AreTold r.memory r.state.machines → (n : ℕ) → ((k : ℕ) → k < n → moves_on quiet (run_from r (λ c. quiet) k) ≡ false) → run_from r (λ c. quiet) n ≡ leapt n r
unfolding run_from
rests laws r told zero h = sym (leapt-none r)
rests laws r told (suc n) h =
    let before = rests laws r told n (λ k lt. h k (omega (arith, lt))) in
    leaps_more laws r told n before (ap (moves_on quiet) (sym before) ∙ h n (omega arith))

pub leaps_by : CalmLaws → (r : Run) → AreTold r.memory r.state.machines → (n : ℕ) → ((k : ℕ) → k < n → moves_on quiet (leapt k r) ≡ false) → run_from r (λ c. quiet) n ≡ leapt n r
unfolding run_from
leaps_by laws r told zero h = sym (leapt-none r)
leaps_by laws r told (suc n) h =
    leaps_more laws r told n (leaps_by laws r told n (λ k lt. h k (omega (arith, lt)))) (h n (omega arith))
