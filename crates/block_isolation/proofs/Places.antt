-- The places of a block in a clock: what holds of each, and what the others leave to one machine.
use Rattle.std.proofs.Common.{◌≡◌, ◌≢◌, ◌∙◌, ℕ, zero, suc, ◌^◌, ◌<◌, ◌==◌, Bool, true, false, ◌||◌, cond, Option, Some, None, option_map, List, [], ◌∷◌, ◌++◌, map, flat_map, slice_index_or, bit_or, refl, sym, ap, arith}
use Rattle.std.proofs.Math.Bool.{or-false}
use Rattle.std.proofs.lemmas.Nat.{or_lt}
use Rattle.std.proofs.lemmas.Nat.Bits.{bit_at-zero}
use Rattle.std.specs.Int.{bit_at}
use Rattle.std.specs.List.{AllByRecursion}
use Rattle.pin_matrix.specs.Pins.{IsWrite, IsFree, last_of}
use Rattle.pin_matrix.specs.declared.machine.MachineSetup.{MachineSetup}
use Rattle.sm_registers.specs.View.{View}
use Rattle.sm_registers.specs.declared.intent.Intent.{Intent}
use Rattle.sm_registers.specs.Intents.{no_intent, two_writes}
use Rattle.sm_registers.specs.State.{queues_of}
use Rattle.sm_registers.specs.Tick.{tick_of}
use Rattle.dreq_pacing.specs.declared.due.Due.{Due}
use Rattle.block_core.specs.Slots.{Slot, lined, has_tick, acted, settled_slot, slot_after, slot_intent, place_after, place_intent}
use Rattle.block_core.specs.Block.{with_all}
use Rattle.block_core.specs.History.{OfEach}
use Rattle.block_isolation.proofs.Bits.{has_or, has_zero}
use Rattle.block_isolation.proofs.Feeling.{ChangesOwn, LeavesPin, changes_own, leaves_pin}
use Rattle.block_isolation.proofs.Homes.{IsHome, home_tick}
use Rattle.block_isolation.proofs.Premises.{TickLaws, PinLaws}
use Rattle.block_shares.specs.Acts.{has}
use Rattle.block_shares.specs.Shares.{touched_by, writes_by}

-- a machine of a place is among the words that it reaches
pub record HomeSlot (memory : List ℕ) (m : Slot) : Type 0 where
  pub home : IsHome memory m.machine.setup m.machine.registers

-- the setups of places
abbrev pub setups_of : List (Option Slot) → List (Option MachineSetup)
setups_of places = map (option_map (λ (m : Slot). m.machine.setup)) places

-- a fact of what a place wants, which holds of a tick and of nothing
pub of_intent : (P : Intent → Type 0) (v : View) (d : Due) → P no_intent → (m : Slot) → P (tick_of m.machine.setup v (queues_of m.machine.ports.fifos) m.machine.registers).1 → P (slot_intent v d m)
unfolding acted
of_intent P v d none m tick = elim (has_tick (lined d m)) as (λ b. P (cond b (tick_of m.machine.setup v (queues_of m.machine.ports.fifos) m.machine.registers) (m.machine.registers, no_intent)).1) [ true ↦ tick | false ↦ none ]

pub of_place : (P : Option Slot → Type 0) (places : List (Option Slot)) (k : ℕ) → P None → AllByRecursion P places → P (slice_index_or places k None)
of_place P [] k none h = none
of_place P (x ∷ places) zero none h = h.0
of_place P (x ∷ places) (suc k) none h = of_place P places k none h.1

-- what holds of each place after a clock
pub each_after : (P Q : Slot → Type 0) (v : View) (d : Due) → ((m : Slot) → P m → Q (slot_after v d m)) → (places : List (Option Slot)) → OfEach P places → OfEach Q (map (place_after v d) places)
each_after P Q v d f [] h = tt
each_after P Q v d f (None ∷ places) h = (tt, each_after P Q v d f places h.1)
each_after P Q v d f (Some m ∷ places) h = (f m h.0, each_after P Q v d f places h.1)

pub home_after : TickLaws → (memory : List ℕ) (v : View) (d : Due) → v.memory ≡ memory → (m : Slot) → HomeSlot memory m → HomeSlot memory (slot_after v d m)
unfolding settled_slot acted
home_after laws memory v d same m h =
    let s = m.machine.setup in
    let r = m.machine.registers in
    record {
      home = elim (has_tick (lined d m)) as (λ b. IsHome memory s (cond b (tick_of s v (queues_of m.machine.ports.fifos) r) (r, no_intent)).0) [
        | true ↦ home_tick laws memory s v (queues_of m.machine.ports.fifos) r same h.home
        | false ↦ h.home
      ];
    }

-- a clock leaves the setups
pub setups_after : (v : View) (d : Due) (places : List (Option Slot)) → setups_of (map (place_after v d) places) ≡ setups_of places
unfolding settled_slot
setups_after v d [] = refl
setups_after v d (None ∷ places) = ap (λ (rest : List (Option MachineSetup)). None ∷ rest) (setups_after v d places)
setups_after v d (Some m ∷ places) = ap (λ (rest : List (Option MachineSetup)). Some m.machine.setup ∷ rest) (setups_after v d places)

two_of : IsWrite (0, 0) → (writes rest : List (ℕ × ℕ)) → AllByRecursion IsWrite writes → AllByRecursion IsWrite rest → AllByRecursion IsWrite (two_writes writes ++ rest)
two_of none [] rest h k = (none, (none, k))
two_of none (w ∷ []) rest h k = (h.0, (none, k))
two_of none (w ∷ x ∷ more) rest h k = (h.0, (h.1.0, k))

-- all that is written are writes of pins; `get` is levels or directions
pub all_writes : (get : Intent → List (ℕ × ℕ)) (v : View) (d : Due) → IsWrite (0, 0) → ((place : Option Slot) → AllByRecursion IsWrite (get (place_intent v d place))) → (places : List (Option Slot)) → AllByRecursion IsWrite (flat_map (λ i. two_writes (get i)) (map (place_intent v d) places))
all_writes get v d none h [] = tt
all_writes get v d none h (place ∷ places) = two_of none (get (place_intent v d place)) _ (h place) (all_writes get v d none h places)

pub levels_write : TickLaws → IsWrite (0, 0) → (v : View) (d : Due) (place : Option Slot) → AllByRecursion IsWrite (place_intent v d place).level
levels_write laws none v d None = (none, (none, tt))
levels_write laws none v d (Some m) =
    of_intent (λ i. AllByRecursion IsWrite i.level) v d (none, (none, tt)) m (laws.writes m.machine.setup v (queues_of m.machine.ports.fifos) m.machine.registers).level

pub directions_write : TickLaws → IsWrite (0, 0) → (v : View) (d : Due) (place : Option Slot) → AllByRecursion IsWrite (place_intent v d place).direction
directions_write laws none v d None = (none, (none, tt))
directions_write laws none v d (Some m) =
    of_intent (λ i. AllByRecursion IsWrite i.direction) v d (none, (none, tt)) m (laws.writes m.machine.setup v (queues_of m.machine.ports.fifos) m.machine.registers).direction

-- what a place wants leaves a pin
pub free_two : (p : ℕ) (writes : List (ℕ × ℕ)) → AllByRecursion (IsFree p) writes → AllByRecursion (IsFree p) (two_writes writes)
free_two p [] h = (bit_at-zero p, (bit_at-zero p, tt))
free_two p (w ∷ []) h = (h.0, (bit_at-zero p, tt))
free_two p (w ∷ x ∷ more) h = (h.0, (h.1.0, tt))

pub leaves_none : (p : ℕ) → LeavesPin p no_intent
leaves_none p = record { level = (bit_at-zero p, (bit_at-zero p, tt)); direction = (bit_at-zero p, (bit_at-zero p, tt)) }

pub leaves_slot : TickLaws → PinLaws → (v : View) (d : Due) (p : ℕ) → p < 32 → (m : Slot) → has (writes_by m.machine.setup) p ≡ false → LeavesPin p (slot_intent v d m)
leaves_slot laws pins v d p inside m h =
    of_intent (LeavesPin p) v d (leaves_none p) m (leaves_pin laws pins m.machine.setup v (queues_of m.machine.ports.fifos) m.machine.registers p inside h)

-- a place changes its own flags
pub changes_slot : (memory : List ℕ) (v : View) (d : Due) → v.memory ≡ memory → (m : Slot) → HomeSlot memory m → ChangesOwn (touched_by memory m.machine.setup) (slot_intent v d m)
changes_slot memory v d same m h =
    of_intent (ChangesOwn (touched_by memory m.machine.setup)) v d
    (record { clears = λ f inside k. has_zero f; sets = λ f inside k. has_zero f; below = omega arith }) m
    (changes_own memory m.machine.setup v (queues_of m.machine.ports.fifos) m.machine.registers same h.home)

free_append : (p : ℕ) (a b : List (ℕ × ℕ)) → AllByRecursion (IsFree p) a → AllByRecursion (IsFree p) b → AllByRecursion (IsFree p) (a ++ b)
free_append p [] b h k = k
free_append p (w ∷ a) b h k = (h.0, free_append p a b h.1 k)

last_append : (p old : ℕ) (a b : List (ℕ × ℕ)) → last_of p old (a ++ b) ≡ last_of p (last_of p old a) b
unfolding last_of
last_append p old [] b = refl
last_append p old (w ∷ a) b = last_append p (cond (bit_at w.0 p == 1) (bit_at w.1 p) old) a b

-- the writes of the other places leave the pin
all_free : (get : Intent → List (ℕ × ℕ)) (v : View) (d : Due) (p : ℕ) (places : List (Option Slot)) → ((k : ℕ) → AllByRecursion (IsFree p) (two_writes (get (place_intent v d (slice_index_or places k None))))) → AllByRecursion (IsFree p) (flat_map (λ i. two_writes (get i)) (map (place_intent v d) places))
all_free get v d p [] h = tt
all_free get v d p (place ∷ places) h =
    free_append p (two_writes (get (place_intent v d place))) _ (h zero) (all_free get v d p places (λ k. h (suc k)))

-- so those of the one are all that there is
pub last_own : PinLaws → (get : Intent → List (ℕ × ℕ)) (v : View) (d : Due) (p : ℕ) (places : List (Option Slot)) (m old : ℕ) → AllByRecursion (IsFree p) (two_writes (get no_intent)) → ((k : ℕ) → k ≢ m → AllByRecursion (IsFree p) (two_writes (get (place_intent v d (slice_index_or places k None)))))
    → last_of p old (flat_map (λ i. two_writes (get i)) (map (place_intent v d) places)) ≡ last_of p old (two_writes (get (place_intent v d (slice_index_or places m None))))
unfolding last_of
last_own pins get v d p [] m old none h = sym (pins.free p old (two_writes (get no_intent)) none)
last_own pins get v d p (place ∷ places) zero old none h =
    let own = two_writes (get (place_intent v d place)) in
    last_append p old own (flat_map (λ i. two_writes (get i)) (map (place_intent v d) places))
    ∙ pins.free p (last_of p old own) (flat_map (λ i. two_writes (get i)) (map (place_intent v d) places)) (all_free get v d p places (λ k. h (suc k) (λ e. absurd (omega (arith, e)))))
last_own pins get v d p (place ∷ places) (suc m) old none h =
    let first = two_writes (get (place_intent v d place)) in
    last_append p old first (flat_map (λ i. two_writes (get i)) (map (place_intent v d) places))
    ∙ (ap (λ o. last_of p o (flat_map (λ i. two_writes (get i)) (map (place_intent v d) places))) (pins.free p old first (h zero (λ e. absurd (omega (arith, e)))))
    ∙ last_own pins get v d p places m old none (λ k apart. h (suc k) (λ e. apart (omega (arith, e)))))

-- the flags that the others lower, or raise, aren't the one's; `get` is either
with_one : (a b c : Bool) → b ≡ false → ((a || b) || c) ≡ (a || c)
with_one a b c h = ap (λ (x : Bool). x || c) (ap (λ (x : Bool). a || x) h ∙ or-false a)

no_more : (get : Intent → ℕ) (v : View) (d : Due) (f flags : ℕ) (places : List (Option Slot)) → ((k : ℕ) → has (get (place_intent v d (slice_index_or places k None))) f ≡ false) → has (with_all flags (map get (map (place_intent v d) places))) f ≡ has flags f
no_more get v d f flags [] h = refl
no_more get v d f flags (place ∷ places) h =
    no_more get v d f (bit_or flags (get (place_intent v d place))) places (λ k. h (suc k))
    ∙ (has_or flags (get (place_intent v d place)) f ∙ (ap (λ (x : Bool). has flags f || x) (h zero) ∙ or-false (has flags f)))

pub flags_own : (get : Intent → ℕ) (v : View) (d : Due) (f flags : ℕ) (places : List (Option Slot)) (m : ℕ) → has (get no_intent) f ≡ false → ((k : ℕ) → k ≢ m → has (get (place_intent v d (slice_index_or places k None))) f ≡ false)
    → has (with_all flags (map get (map (place_intent v d) places))) f ≡ (has flags f || has (get (place_intent v d (slice_index_or places m None))) f)
flags_own get v d f flags [] m none h = sym (ap (λ (x : Bool). has flags f || x) none ∙ or-false (has flags f))
flags_own get v d f flags (place ∷ places) zero none h =
    no_more get v d f (bit_or flags (get (place_intent v d place))) places (λ k. h (suc k) (λ e. absurd (omega (arith, e))))
    ∙ has_or flags (get (place_intent v d place)) f
flags_own get v d f flags (place ∷ places) (suc m) none h =
    flags_own get v d f (bit_or flags (get (place_intent v d place))) places m none (λ k apart. h (suc k) (λ e. apart (omega (arith, e))))
    ∙ (ap (λ (x : Bool). x || has (get (place_intent v d (slice_index_or places m None))) f) (has_or flags (get (place_intent v d place)) f)
    ∙ with_one (has flags f) (has (get (place_intent v d place)) f) _ (h zero (λ e. absurd (omega (arith, e)))))

-- what is lowered are eight flags
pub flags_below : (get : Intent → ℕ) (v : View) (d : Due) (flags : ℕ) (places : List (Option Slot)) → flags < 2 ^ 8 → AllByRecursion (λ place. get (place_intent v d place) < 2 ^ 8) places → with_all flags (map get (map (place_intent v d) places)) < 2 ^ 8
flags_below get v d flags [] h k = h
flags_below get v d flags (place ∷ places) h k = flags_below get v d (bit_or flags (get (place_intent v d place))) places (or_lt 8 flags (get (place_intent v d place)) h k.0) k.1

pub clears_below : (memory : List ℕ) (v : View) (d : Due) → v.memory ≡ memory → (places : List (Option Slot)) → OfEach (HomeSlot memory) places → AllByRecursion (λ place. (place_intent v d place).clears < 2 ^ 8) places
clears_below memory v d same [] h = tt
clears_below memory v d same (None ∷ places) h = (omega arith, clears_below memory v d same places h.1)
clears_below memory v d same (Some m ∷ places) h = ((changes_slot memory v d same m h.0).below, clears_below memory v d same places h.1)
