-- What the others leave to a machine that is alone: its pins get what it writes, and its flags what it does to them.
use Rattle.std.proofs.Common.{◌≡◌, ◌≢◌, ◌∙◌, ℕ, ◌^◌, ◌<◌, not, ◌&&◌, ◌||◌, Bool, true, false, Option, Some, None, IfSome, List, map, slice_index_or, bit_and, refl, sym, ap, arith}
use Rattle.std.specs.Int.{bit_at}
use Rattle.pin_matrix.specs.Pins.{last_of}
use Rattle.pin_matrix.specs.declared.machine.MachineSetup.{MachineSetup}
use Rattle.pin_matrix.specs.declared.setup.Setup.{Setup}
use Rattle.sm_registers.specs.declared.intent.Intent.{Intent}
use Rattle.sm_registers.specs.Intents.{no_intent, two_writes}
use Rattle.sm_registers.specs.View.{View}
use Rattle.dreq_pacing.specs.declared.due.Due.{Due}
use Rattle.block_core.specs.Slots.{Slot, place_intent}
use Rattle.block_core.specs.Block.{BlockState, stepped, view_of, intents_of, level_writes, direction_writes, any_of}
use Rattle.block_core.specs.Following.{place_at}
use Rattle.block_core.specs.History.{OfEach}
use Rattle.block_core.specs.Block.{first_state}
use Rattle.block_shares.specs.declared.touched.Touches.{Touches}
use Rattle.block_shares.specs.Acts.{has}
use Rattle.block_shares.specs.Shares.{writes_by, touched_by, touched_at, touches_of, own_pins, own_flags, IsAlone}
use Rattle.block_isolation.proofs.Bits.{has_apart, has_zero, has_merged}
use Rattle.block_isolation.proofs.Feeling.{LeavesPin}
use Rattle.block_isolation.proofs.Places.{HomeSlot, setups_of, of_place, all_writes, levels_write, directions_write, free_two, leaves_none, leaves_slot, changes_slot, last_own, flags_own, flags_below, clears_below}
use Rattle.block_isolation.proofs.Premises.{TickLaws, PinLaws}
use Rattle.block_isolation.proofs.Running.{IsPlaceOf, place_setup}
use Rattle.block_isolation.proofs.Touching.{writes_same}

-- a state of a run of a setup
pub record IsStateOf (s : Setup) (b : BlockState) : Type 0 where
  pub homes : OfEach (HomeSlot s.memory) b.machines
  pub setups : setups_of b.machines ≡ setups_of (first_state s).machines

touches_own : (s : Setup) (k : ℕ) (own : MachineSetup) → slice_index_or s.machines k None ≡ Some own → touches_of s k ≡ touched_by s.memory own
touches_own s k own h = ap (touched_at s.memory) h

-- another machine writes none of its pins
unwritten : (s : Setup) (m k p : ℕ) (other : MachineSetup) → IsAlone s m → k ≢ m → IsPlaceOf s k other → has (own_pins (touches_of s m)) p ≡ true → has (writes_by other) p ≡ false
unwritten s m k p other alone apart place own =
    let none : bit_and (touches_of s k).writes (own_pins (touches_of s m)) ≡ 0 = ap (λ (x : ℕ × ℕ). x.0) (alone k place.below apart) in
    let writes : (touches_of s k).writes ≡ writes_by other = ap (λ (t : Touches). t.writes) (touches_own s k other place.machine) ∙ writes_same s.memory other in
    ap (λ (x : ℕ). has x p) (sym writes) ∙ has_apart (touches_of s k).writes (own_pins (touches_of s m)) p none own

-- and changes none of its flags
unchanged : (s : Setup) (m k f : ℕ) (other : MachineSetup) → IsAlone s m → k ≢ m → IsPlaceOf s k other → has (own_flags (touches_of s m)) f ≡ true → has (touched_by s.memory other).changes f ≡ false
unchanged s m k f other alone apart place own =
    let none : bit_and (touches_of s k).changes (own_flags (touches_of s m)) ≡ 0 = ap (λ (x : ℕ × ℕ). x.1) (alone k place.below apart) in
    ap (λ (t : Touches). has t.changes f) (sym (touches_own s k other place.machine)) ∙ has_apart (touches_of s k).changes (own_flags (touches_of s m)) f none own

others_pin : TickLaws → PinLaws → (s : Setup) (m p : ℕ) (b : BlockState) (v : View) (d : Due) → IsAlone s m → IsStateOf s b → p < 32 → has (own_pins (touches_of s m)) p ≡ true → (k : ℕ) → k ≢ m → (o : Option Slot) → place_at b k ≡ o → LeavesPin p (place_intent v d o)
others_pin ticks pins s m p b v d alone state inside own k apart None e = leaves_none p
others_pin ticks pins s m p b v d alone state inside own k apart (Some x) e =
    leaves_slot ticks pins v d p inside x (unwritten s m k p x.machine.setup alone apart (place_setup s b state.setups k x e) own)

-- what another place does to a flag of the machine
record LeavesFlag (f : ℕ) (i : Intent) : Type 0 where
  clears : has i.clears f ≡ false
  sets : has i.sets f ≡ false

others_flag : (s : Setup) (m f : ℕ) (b : BlockState) (v : View) (d : Due) → v.memory ≡ s.memory → IsAlone s m → IsStateOf s b → f < 8 → has (own_flags (touches_of s m)) f ≡ true → (k : ℕ) → k ≢ m → (o : Option Slot) → place_at b k ≡ o → IfSome o (HomeSlot s.memory) → LeavesFlag f (place_intent v d o)
others_flag s m f b v d same alone state inside own k apart None e home = record { clears = has_zero f; sets = has_zero f }
others_flag s m f b v d same alone state inside own k apart (Some x) e home =
    let changes = changes_slot s.memory v d same x home in
    let none = unchanged s m k f x.machine.setup alone apart (place_setup s b state.setups k x e) own in
    record { clears = changes.clears f inside none; sets = changes.sets f inside none }

pub home_at : (s : Setup) (b : BlockState) (k : ℕ) → IsStateOf s b → IfSome (place_at b k) (HomeSlot s.memory)
home_at s b k state = of_place (λ place. IfSome place (HomeSlot s.memory)) b.machines k tt state.homes

-- its own pins
pub level_after : TickLaws → PinLaws → (s : Setup) (m p seen : ℕ) (d : Due) (memory : List ℕ) (b : BlockState) → IsAlone s m → IsStateOf s b → p < 32 → has (own_pins (touches_of s m)) p ≡ true
    → bit_at (stepped memory seen d b).levels p ≡ last_of p (bit_at b.levels p) (two_writes (place_intent (view_of memory seen b) d (place_at b m)).level)
unfolding stepped
level_after ticks pins s m p seen d memory b alone state inside own =
    let v = view_of memory seen b in
    let get = λ (i : Intent). i.level in
    pins.last p b.levels (level_writes (intents_of v d b.machines)) inside (all_writes get v d pins.none (levels_write ticks pins.none v d) b.machines)
    ∙ last_own pins get v d p b.machines m (bit_at b.levels p) (free_two p no_intent.level (leaves_none p).level)
    (λ k apart. free_two p (place_intent v d (place_at b k)).level (others_pin ticks pins s m p b v d alone state inside own k apart (place_at b k) refl).level)

pub direction_after : TickLaws → PinLaws → (s : Setup) (m p seen : ℕ) (d : Due) (memory : List ℕ) (b : BlockState) → IsAlone s m → IsStateOf s b → p < 32 → has (own_pins (touches_of s m)) p ≡ true
    → bit_at (stepped memory seen d b).directions p ≡ last_of p (bit_at b.directions p) (two_writes (place_intent (view_of memory seen b) d (place_at b m)).direction)
unfolding stepped
direction_after ticks pins s m p seen d memory b alone state inside own =
    let v = view_of memory seen b in
    let get = λ (i : Intent). i.direction in
    pins.last p b.directions (direction_writes (intents_of v d b.machines)) inside (all_writes get v d pins.none (directions_write ticks pins.none v d) b.machines)
    ∙ last_own pins get v d p b.machines m (bit_at b.directions p) (free_two p no_intent.direction (leaves_none p).direction)
    (λ k apart. free_two p (place_intent v d (place_at b k)).direction (others_pin ticks pins s m p b v d alone state inside own k apart (place_at b k) refl).direction)

-- its own flags
or_first : (a b : Bool) → a ≡ false → (a || b) ≡ b
or_first true b h = cc
or_first false b h = refl

pub flag_after : (s : Setup) (m f seen : ℕ) (d : Due) (memory : List ℕ) (b : BlockState) → memory ≡ s.memory → IsAlone s m → IsStateOf s b → f < 8 → has (own_flags (touches_of s m)) f ≡ true
    → has (stepped memory seen d b).flags f ≡ (has (place_intent (view_of memory seen b) d (place_at b m)).sets f || (has b.flags f && not (has (place_intent (view_of memory seen b) d (place_at b m)).clears f)))
unfolding stepped
flag_after s m f seen d memory b same alone state inside own =
    let v = view_of memory seen b in
    let others = λ (k : ℕ) (apart : k ≢ m). others_flag s m f b v d same alone state inside own k apart (place_at b k) refl (home_at s b k state) in
    let clears = any_of (map (λ (i : Intent). i.clears) (intents_of v d b.machines)) in
    let sets = any_of (map (λ (i : Intent). i.sets) (intents_of v d b.machines)) in
    let below : clears < 2 ^ 8 = flags_below (λ (i : Intent). i.clears) v d 0 b.machines (omega arith) (clears_below s.memory v d same b.machines state.homes) in
    let cleared : has clears f ≡ has (place_intent v d (place_at b m)).clears f =
    flags_own (λ (i : Intent). i.clears) v d f 0 b.machines m (has_zero f) (λ k apart. (others k apart).clears) ∙ or_first (has 0 f) _ (has_zero f) in
    let set : has sets f ≡ has (place_intent v d (place_at b m)).sets f =
    flags_own (λ (i : Intent). i.sets) v d f 0 b.machines m (has_zero f) (λ k apart. (others k apart).sets) ∙ or_first (has 0 f) _ (has_zero f) in
    has_merged b.flags clears sets f below inside
    ∙ (ap (λ (x : Bool). x || (has b.flags f && not (has clears f))) set
    ∙ ap (λ (x : Bool). has (place_intent v d (place_at b m)).sets f || (has b.flags f && not x)) cleared)
