-- FIFOs at which nothing is done in a clock, and what their machines ask for after it.
use Rattle.std.proofs.Common.{◌≡◌, ℕ, Bool, true, false, not, ◌||◌, Option, Some, None, is_some, List, [], ◌∷◌, map, refl, ap}
use Rattle.std.specs.List.{list_any}
use Rattle.std.proofs.lemmas.Bool.{or_parts}
use Rattle.fifo_pair.specs.Fifos.{Fifos, settled, is_full}
use Rattle.sm_registers.specs.State.{settled_ports}
use Rattle.sm_registers.specs.View.{View}
use Rattle.dreq_pacing.specs.declared.due.Due.{Due}
use Rattle.block_core.specs.Slots.{Slot, settled_slot, slot_after, slot_intent, slot_uses_fifos, place_after, place_uses_fifos}
use Rattle.block_core.specs.Block.{Run, next, next_over, stepped, uses_fifos_in, uses_fifos_over, view_of, seen_over, pads_in}
use Rattle.block_core.specs.Shown.{shown_in, requests_of}

-- the law of a quiet clock
abbrev pub StaysQuiet : Type 0
StaysQuiet = (f : Fifos) → settled false None None false f ≡ f

-- FIFOs of which nobody wants anything stay
by_parts : (take : Bool) (word w : Option ℕ) (read : Bool) (f : Fifos) → StaysQuiet → (take || (is_some word || (is_some w || read))) ≡ false → settled take word w read f ≡ f
by_parts true word w read f law h = cc
by_parts false (Some x) w read f law h = cc
by_parts false None (Some x) read f law h = cc
by_parts false None None true f law h = cc
by_parts false None None false f law h = law f

fifos_stay : StaysQuiet → (v : View) (d : Due) (s : Slot) → slot_uses_fifos v d s ≡ false → (slot_after v d s).machine.ports.fifos ≡ s.machine.ports.fifos
unfolding settled_slot settled_ports
fifos_stay law v d s h = by_parts (slot_intent v d s).take (slot_intent v d s).word _ _ s.machine.ports.fifos law h

-- whether a place's TX has room, and whether its RX has a word
abbrev asks_tx : Option Slot → Bool
asks_tx m = not (shown_in m).tx_full

abbrev asks_rx : Option Slot → Bool
asks_rx m = not (shown_in m).rx_empty

place_tx : StaysQuiet → (v : View) (d : Due) (m : Option Slot) → place_uses_fifos v d m ≡ false → asks_tx (place_after v d m) ≡ asks_tx m
place_tx law v d None h = refl
place_tx law v d (Some s) h = ap (λ (f : Fifos). not (is_full f.tx_room f.tx)) (fifos_stay law v d s h)

place_rx : StaysQuiet → (v : View) (d : Due) (m : Option Slot) → place_uses_fifos v d m ≡ false → asks_rx (place_after v d m) ≡ asks_rx m
place_rx law v d None h = refl
place_rx law v d (Some s) h = ap (λ (f : Fifos). asks_rx (Some (record s { machine = record s.machine { ports = record s.machine.ports { fifos = f } } }))) (fifos_stay law v d s h)

-- the same of all places, by a test that stays at each
all_stay : (used : Option Slot → Bool) (after : Option Slot → Option Slot) (asks : Option Slot → Bool) → ((m : Option Slot) → used m ≡ false → asks (after m) ≡ asks m) → (places : List (Option Slot)) → list_any used places ≡ false → map asks (map after places) ≡ map asks places
all_stay used after asks stays [] h = refl
all_stay used after asks stays (m ∷ places) h =
    let parts = or_parts (used m) (list_any used places) h in
    rw (stays m parts.0, all_stay used after asks stays places parts.1) refl

pub requests_stay_over : StaysQuiet → (pad : ℕ) (d : Due) (r : Run) → uses_fifos_over pad d r ≡ false → requests_of (next_over pad d r).state ≡ requests_of r.state
unfolding stepped requests_of
requests_stay_over law pad d r h =
    let v = view_of r.memory (seen_over pad r) r.state in
    rw (
      all_stay (place_uses_fifos v d) (place_after v d) asks_tx (place_tx law v d) r.state.machines h,
      all_stay (place_uses_fifos v d) (place_after v d) asks_rx (place_rx law v d) r.state.machines h,
    ) refl

pub requests_stay : StaysQuiet → (d : Due) (r : Run) → uses_fifos_in d r ≡ false → requests_of (next d r).state ≡ requests_of r.state
unfolding next
requests_stay law d r h = requests_stay_over law (pads_in d r.state) d r h
