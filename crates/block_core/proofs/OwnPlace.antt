-- A machine's place in a run, and the pins to which it alone is mapped.
use Rattle.std.proofs.Common.{◌≡◌, ℕ, zero, suc, ◌<◌, ◌==◌, true, false, not, ◌&&◌, ◌||◌, Option, Some, None, option_map, IfSome, List, [], ◌∷◌, ◌++◌, map, cond, slice_index_or, refl, ap, sym, ◌∙◌, subst, arith}
use Rattle.std.proofs.lemmas.Bool.{and_parts, not-true}
use Rattle.std.proofs.lemmas.Nat.Bits.{bit_at-zero}
use Rattle.std.proofs.Math.ListN.{get_or-map}
use Rattle.std.specs.Int.{bit_at}
use Rattle.std.specs.List.{AllByRecursion}
use Rattle.pin_matrix.specs.Pins.{IsWrite, IsFree, merged, last_of}
use Rattle.pin_matrix.specs.declared.machine.MachineSetup.{MachineSetup}
use Rattle.pin_matrix.specs.declared.setup.Setup.{Setup}
use Rattle.pin_matrix.specs.declared.span.PinSignal.{PinSignal}
use Rattle.pin_matrix.specs.declared.span.PinSignal.TheVariants.{Level, Direction}
use Rattle.sm_registers.specs.declared.registers.Registers.{Registers}
use Rattle.sm_registers.specs.View.{View}
use Rattle.sm_registers.specs.declared.intent.Intent.{Intent}
use Rattle.sm_registers.specs.Intents.{no_intent, two_writes}
use Rattle.sm_registers.specs.Laws.{WritesPins}
use Rattle.sm_registers.specs.Queues.{Queues}
use Rattle.sm_registers.specs.Rules.{holds}
use Rattle.sm_registers.specs.State.{queues_of}
use Rattle.sm_registers.specs.Tick.{tick_of}
use Rattle.dreq_pacing.specs.declared.due.Due.{Due}
use Rattle.block_core.specs.Slots.{Slot, first_slot, lined, has_tick, acted, place_after, place_intent}
use Rattle.block_core.specs.Block.{BlockState, Run, TakesLastWrites, first_state, first_place, next_over, stepped, view_of, intents_of, level_writes, direction_writes, wanted_over}
use Rattle.block_core.specs.Following.{Follows, place_at, intent_in, passes_by, leaves, OthersLeave}
use Rattle.block_core.proofs.Writes.{two_of}

pub place-start : (s : Setup) (id : ℕ) → id < 4 → place_at (first_state s) id ≡ first_place s id
place-start s zero h = refl
place-start s (suc zero) h = refl
place-start s (suc (suc zero)) h = refl
place-start s (suc (suc (suc zero))) h = refl
place-start s (suc (suc (suc (suc id)))) h = absurd (omega arith)

pub place-after : (memory : List ℕ) (seen : ℕ → ℕ) (host : ℕ → Due) (states : ℕ → BlockState) → Follows memory seen host states → (clock id : ℕ) → place_at (states (suc clock)) id ≡ place_after (view_of memory (seen clock) (states clock)) (host clock) (place_at (states clock) id)
unfolding stepped
place-after memory seen host states follows clock id =
    ap (λ (b : BlockState). place_at b id) (follows clock)
    ∙ get_or-map (place_after (view_of memory (seen clock) (states clock)) (host clock)) (states clock).machines id None

-- a fact of what a place wants, which holds of a tick and of nothing
of_intent : (P : Intent → Type 0) (v : View) (d : Due) → P no_intent → (m : Slot) → P (tick_of m.machine.setup v (queues_of m.machine.ports.fifos) m.machine.registers).1 → P (place_intent v d (Some m))
unfolding acted
of_intent P v d none m tick = elim (has_tick (lined d m)) as (λ b. P (cond b (tick_of m.machine.setup v (queues_of m.machine.ports.fifos) m.machine.registers) (m.machine.registers, no_intent)).1) [ true ↦ tick | false ↦ none ]

-- what three sections of the block's laws say, as premises here
abbrev pub TicksWritePins : Type 0
TicksWritePins = (s : MachineSetup) (v : View) (q : Queues) (r : Registers) → WritesPins (tick_of s v q r).1

abbrev pub LastWriteCounts : Type 0
LastWriteCounts = (p old : ℕ) (ws : List (ℕ × ℕ)) → p < 32 → AllByRecursion IsWrite ws → bit_at (merged old ws) p ≡ last_of p (bit_at old p) ws

-- what of its writes goes to levels, and what to directions
abbrev pub written : PinSignal → Intent → List (ℕ × ℕ)
written Level i = i.level
written Direction i = i.direction

abbrev pub TicksWriteOwnPins : PinSignal → Type 0
TicksWriteOwnPins signal =
    (s : MachineSetup) (v : View) (q : Queues) (r : Registers) (p : ℕ) → p < 32 → holds s.out p ≡ false → holds s.set p ≡ false
    → (passes_by signal s || not (holds s.side p)) ≡ true → AllByRecursion (IsFree p) (written signal (tick_of s v q r).1)

-- the writes of all machines, of one kind
abbrev all_written : PinSignal → List Intent → List (ℕ × ℕ)
all_written Level intents = level_writes intents
all_written Direction intents = direction_writes intents

pub place_writes : TicksWritePins → IsWrite (0, 0) → (v : View) (d : Due) (place : Option Slot) → AllByRecursion IsWrite (place_intent v d place).level
place_writes law none v d None = (none, (none, tt))
place_writes law none v d (Some m) =
    of_intent (λ i. AllByRecursion IsWrite i.level) v d (none, (none, tt)) m (law m.machine.setup v (queues_of m.machine.ports.fifos) m.machine.registers).level

pub place_turns : TicksWritePins → IsWrite (0, 0) → (v : View) (d : Due) (place : Option Slot) → AllByRecursion IsWrite (place_intent v d place).direction
place_turns law none v d None = (none, (none, tt))
place_turns law none v d (Some m) =
    of_intent (λ i. AllByRecursion IsWrite i.direction) v d (none, (none, tt)) m (law m.machine.setup v (queues_of m.machine.ports.fifos) m.machine.registers).direction

all_writes : TicksWritePins → IsWrite (0, 0) → (v : View) (d : Due) (places : List (Option Slot)) → AllByRecursion IsWrite (level_writes (intents_of v d places))
all_writes law none v d [] = tt
all_writes law none v d (place ∷ places) =
    two_of none (place_intent v d place).level (level_writes (intents_of v d places)) (place_writes law none v d place) (all_writes law none v d places)

all_turns : TicksWritePins → IsWrite (0, 0) → (v : View) (d : Due) (places : List (Option Slot)) → AllByRecursion IsWrite (direction_writes (intents_of v d places))
all_turns law none v d [] = tt
all_turns law none v d (place ∷ places) =
    two_of none (place_intent v d place).direction (direction_writes (intents_of v d places)) (place_turns law none v d place) (all_turns law none v d places)

-- so each pin has the bit of the last of them after a clock
pub levels_are_last : TicksWritePins → IsWrite (0, 0) → LastWriteCounts → (pad : ℕ) (d : Due) (r after : Run) → after ≡ next_over pad d r → TakesLastWrites r.state.levels after.state.levels (level_writes (wanted_over pad d r))
unfolding stepped
levels_are_last law none last pad d r after is p below = rw is (last p r.state.levels _ below (all_writes law none _ d r.state.machines))

pub directions_are_last : TicksWritePins → IsWrite (0, 0) → LastWriteCounts → (pad : ℕ) (d : Due) (r after : Run) → after ≡ next_over pad d r → TakesLastWrites r.state.directions after.state.directions (direction_writes (wanted_over pad d r))
unfolding stepped
directions_are_last law none last pad d r after is p below = rw is (last p r.state.directions _ below (all_turns law none _ d r.state.machines))

free_two : (p : ℕ) (writes : List (ℕ × ℕ)) → AllByRecursion (IsFree p) writes → AllByRecursion (IsFree p) (two_writes writes)
free_two p [] h = (bit_at-zero p, (bit_at-zero p, tt))
free_two p (w ∷ []) h = (h.0, (bit_at-zero p, tt))
free_two p (w ∷ x ∷ more) h = (h.0, (h.1.0, tt))

none_free : (signal : PinSignal) (p : ℕ) → AllByRecursion (IsFree p) (written signal no_intent)
none_free Level p = (bit_at-zero p, (bit_at-zero p, tt))
none_free Direction p = (bit_at-zero p, (bit_at-zero p, tt))

place_free : (signal : PinSignal) → TicksWriteOwnPins signal → (v : View) (d : Due) (p : ℕ) → p < 32 → (place : Option Slot) → IfSome (option_map (λ (m : Slot). m.machine.setup) place) (λ s. leaves p signal s ≡ true) → AllByRecursion (IsFree p) (two_writes (written signal (place_intent v d place)))
place_free Level law v d p inside None h = (bit_at-zero p, (bit_at-zero p, tt))
place_free Direction law v d p inside None h = (bit_at-zero p, (bit_at-zero p, tt))
place_free signal law v d p inside (Some m) h =
    let s = m.machine.setup in
    let parts = and_parts (not (holds s.out p)) (not (holds s.set p) && (passes_by signal s || not (holds s.side p))) h in
    let rest = and_parts (not (holds s.set p)) (passes_by signal s || not (holds s.side p)) parts.1 in
    free_two p (written signal (place_intent v d (Some m)))
    (of_intent (λ i. AllByRecursion (IsFree p) (written signal i)) v d (none_free signal p) m
    (law s v (queues_of m.machine.ports.fifos) m.machine.registers p inside (not-true _ parts.0) (not-true _ rest.0) rest.1))

-- writes that leave a pin, before others
free_append : (p : ℕ) (a b : List (ℕ × ℕ)) → AllByRecursion (IsFree p) a → AllByRecursion (IsFree p) b → AllByRecursion (IsFree p) (a ++ b)
free_append p [] b h k = k
free_append p (w ∷ a) b h k = (h.0, free_append p a b h.1 k)

last_append : (p old : ℕ) (a b : List (ℕ × ℕ)) → last_of p old (a ++ b) ≡ last_of p (last_of p old a) b
unfolding last_of
last_append p old [] b = refl
last_append p old (w ∷ a) b = last_append p (cond (bit_at w.0 p == 1) (bit_at w.1 p) old) a b

-- as a premise: a pin that no write holds stays
abbrev pub FreeStays : Type 0
FreeStays = (p old : ℕ) (ws : List (ℕ × ℕ)) → AllByRecursion (IsFree p) ws → last_of p old ws ≡ old

-- each of the places leaves the pin
abbrev AllLeave : ℕ → PinSignal → List (Option Slot) → Type 0
AllLeave p signal places = (other : ℕ) → IfSome (slice_index_or (map (option_map (λ (m : Slot). m.machine.setup)) places) other None) (λ s. leaves p signal s ≡ true)

-- of no places, and of one before others
none-written : (signal : PinSignal) (v : View) (d : Due) → all_written signal (intents_of v d []) ≡ []
none-written Level v d = refl
none-written Direction v d = refl

one-written : (signal : PinSignal) (v : View) (d : Due) (place : Option Slot) (places : List (Option Slot)) → all_written signal (intents_of v d (place ∷ places)) ≡ two_writes (written signal (place_intent v d place)) ++ all_written signal (intents_of v d places)
one-written Level v d place places = refl
one-written Direction v d place places = refl

all_free : (signal : PinSignal) → TicksWriteOwnPins signal → (v : View) (d : Due) (p : ℕ) → p < 32 → (places : List (Option Slot)) → AllLeave p signal places → AllByRecursion (IsFree p) (all_written signal (intents_of v d places))
all_free signal law v d p inside [] h = subst (AllByRecursion (IsFree p)) (sym (none-written signal v d)) tt
all_free signal law v d p inside (place ∷ places) h =
    subst (AllByRecursion (IsFree p)) (sym (one-written signal v d place places))
    (free_append p (two_writes (written signal (place_intent v d place))) (all_written signal (intents_of v d places)) (place_free signal law v d p inside place (h zero)) (all_free signal law v d p inside places (λ other. h (suc other))))

none-wanted : (signal : PinSignal) → two_writes (written signal no_intent) ≡ (0, 0) ∷ (0, 0) ∷ []
none-wanted Level = refl
none-wanted Direction = refl

-- the writes of the one machine are all that there is
last-own : (signal : PinSignal) → TicksWriteOwnPins signal → FreeStays → (v : View) (d : Due) (p : ℕ) → p < 32 → (places : List (Option Slot)) (id old : ℕ) → OthersLeave signal id p (map (option_map (λ (m : Slot). m.machine.setup)) places) → last_of p old (all_written signal (intents_of v d places)) ≡ last_of p old (two_writes (written signal (place_intent v d (slice_index_or places id None))))
unfolding last_of
last-own signal law stays v d p inside [] id old h =
    ap (last_of p old) (none-written signal v d)
    ∙ sym (stays p old ((0, 0) ∷ (0, 0) ∷ []) (bit_at-zero p, (bit_at-zero p, tt)))
    ∙ ap (last_of p old) (sym (none-wanted signal))
last-own signal law stays v d p inside (place ∷ places) zero old h =
    let own = two_writes (written signal (place_intent v d place)) in
    ap (last_of p old) (one-written signal v d place places)
    ∙ last_append p old own (all_written signal (intents_of v d places))
    ∙ stays p (last_of p old own) (all_written signal (intents_of v d places)) (all_free signal law v d p inside places (λ other. h (suc other) (λ e. absurd (omega (arith, e)))))
last-own signal law stays v d p inside (place ∷ places) (suc id) old h =
    let first = two_writes (written signal (place_intent v d place)) in
    let free = place_free signal law v d p inside place (h zero (λ e. absurd (omega (arith, e)))) in
    ap (last_of p old) (one-written signal v d place places)
    ∙ last_append p old first (all_written signal (intents_of v d places))
    ∙ ap (λ o. last_of p o (all_written signal (intents_of v d places))) (stays p old first free)
    ∙ last-own signal law stays v d p inside places id old (λ other apart. h (suc other) (λ e. apart (omega (arith, e))))

-- the setups are at their places from the start
some_first : (P : MachineSetup → Type 0) (s : Option MachineSetup) → IfSome s P → IfSome (option_map (λ (m : Slot). m.machine.setup) (option_map first_slot s)) P
some_first P None h = tt
some_first P (Some s) h = h

leave-first : (s : Setup) (signal : PinSignal) (id p : ℕ) → OthersLeave signal id p s.machines → OthersLeave signal id p (map (option_map (λ (m : Slot). m.machine.setup)) (first_state s).machines)
leave-first s signal id p h zero apart = some_first (λ t. leaves p signal t ≡ true) (slice_index_or s.machines 0 None) (h 0 apart)
leave-first s signal id p h (suc zero) apart = some_first (λ t. leaves p signal t ≡ true) (slice_index_or s.machines 1 None) (h 1 apart)
leave-first s signal id p h (suc (suc zero)) apart = some_first (λ t. leaves p signal t ≡ true) (slice_index_or s.machines 2 None) (h 2 apart)
leave-first s signal id p h (suc (suc (suc zero))) apart = some_first (λ t. leaves p signal t ≡ true) (slice_index_or s.machines 3 None) (h 3 apart)
leave-first s signal id p h (suc (suc (suc (suc other)))) apart = tt

pub own_level : TicksWritePins → TicksWriteOwnPins Level → IsWrite (0, 0) → LastWriteCounts → FreeStays → (s : Setup) (memory : List ℕ) (seen : ℕ) (d : Due) (b : BlockState) (id p : ℕ) → p < 32 → OthersLeave Level id p s.machines → map (option_map (λ (m : Slot). m.machine.setup)) b.machines ≡ map (option_map (λ (m : Slot). m.machine.setup)) (first_state s).machines → bit_at (stepped memory seen d b).levels p ≡ last_of p (bit_at b.levels p) (two_writes (intent_in memory seen d b id).level)
unfolding stepped
own_level writes law none last stays s memory seen d b id p inside others same =
    let v = view_of memory seen b in
    last p b.levels (level_writes (intents_of v d b.machines)) inside (all_writes writes none v d b.machines)
    ∙ last-own Level law stays v d p inside b.machines id (bit_at b.levels p) (subst (OthersLeave Level id p) (sym same) (leave-first s Level id p others))

pub own_direction : TicksWritePins → TicksWriteOwnPins Direction → IsWrite (0, 0) → LastWriteCounts → FreeStays → (s : Setup) (memory : List ℕ) (seen : ℕ) (d : Due) (b : BlockState) (id p : ℕ) → p < 32 → OthersLeave Direction id p s.machines → map (option_map (λ (m : Slot). m.machine.setup)) b.machines ≡ map (option_map (λ (m : Slot). m.machine.setup)) (first_state s).machines → bit_at (stepped memory seen d b).directions p ≡ last_of p (bit_at b.directions p) (two_writes (intent_in memory seen d b id).direction)
unfolding stepped
own_direction writes law none last stays s memory seen d b id p inside others same =
    let v = view_of memory seen b in
    last p b.directions (direction_writes (intents_of v d b.machines)) inside (all_turns writes none v d b.machines)
    ∙ last-own Direction law stays v d p inside b.machines id (bit_at b.directions p) (subst (OthersLeave Direction id p) (sym same) (leave-first s Direction id p others))
