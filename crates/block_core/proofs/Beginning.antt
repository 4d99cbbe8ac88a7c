-- A clock in which the pads change, or a machine begins an instruction, moves the block on.
use Rattle.std.proofs.Common.{◌≡◌, ℕ, ◌==◌, Bool, true, false, not, ◌&&◌, ◌||◌, Option, Some, None, is_some, List, [], ◌∷◌, map, cond, refl, ap, sym, ◌∙◌, subst}
use Rattle.std.specs.List.{list_any}
use Rattle.std.proofs.lemmas.Bool.{and_from, and_parts, or_left, or_right}
use Rattle.pin_matrix.specs.declared.machine.MachineSetup.{MachineSetup}
use Rattle.sm_registers.specs.declared.registers.Registers.{Registers}
use Rattle.sm_registers.specs.View.{View}
use Rattle.sm_registers.specs.Intents.{no_intent}
use Rattle.sm_registers.specs.Idling.{stirs, begins_next}
use Rattle.sm_registers.specs.Simple as simple
use Rattle.sm_registers.specs.Queues.{Queues}
use Rattle.sm_registers.specs.State.{queues_of}
use Rattle.sm_registers.specs.Tick.{tick_of}
use Rattle.dreq_pacing.specs.Due.{quiet}
use Rattle.block_core.specs.Block.{Run, pads_in, view_of, seen_in, seen_over}
use Rattle.block_core.specs.Slots.{Slot, has_tick, acted, is_ready, place_intent}
use Rattle.block_core.specs.Stirring.{machines_stir_over, pads_change, pads_change_over, moves_on, begins_now, begins_or_changes}
use Rattle.block_core.specs.Twin.{TwinRun, twin_pads_in, twin_pads_change, twin_moves_on, twin_begins_or_changes}
use Rattle.block_core.proofs.LeaptRun.{lined_quiet}

-- what the law of first ticks says
abbrev pub FirstTicksStir : Type 0
FirstTicksStir =
    (s : MachineSetup) (v : View) (q : Queues) (r : Registers) → begins_next r ≡ true → stirs (tick_of s v q r).1 ≡ true

-- a machine that begins an instruction stirs
slot_begins : FirstTicksStir → (v : View) (s : Slot) → begins_now (Some s) ≡ true → stirs (acted v s).1 ≡ true
unfolding acted
slot_begins law v s h =
    let m = s.machine in
    let parts = and_parts (has_tick s) (begins_next m.registers) h in
    subst (λ b. stirs (cond b (tick_of m.setup v (queues_of m.ports.fifos) m.registers) (m.registers, no_intent)).1 ≡ true)
    (sym parts.0) (law m.setup v (queues_of m.ports.fifos) m.registers parts.1)

place_begins : FirstTicksStir → (v : View) (place : Option Slot) → begins_now place ≡ true → stirs (place_intent v quiet place) ≡ true
place_begins law v None h = cc
place_begins law v (Some s) h = subst (λ t. stirs (acted v t).1 ≡ true) (sym (lined_quiet s)) (slot_begins law v s h)

either : (a b x y : Bool) → (a ≡ true → x ≡ true) → (b ≡ true → y ≡ true) → (a || b) ≡ true → (x || y) ≡ true
either true b x y f g h = or_left x y (f refl)
either false b x y f g h = or_right x y (g h)

any_begins : FirstTicksStir → (v : View) (places : List (Option Slot)) → list_any begins_now places ≡ true → list_any stirs (map (place_intent v quiet) places) ≡ true
any_begins law v [] h = cc
any_begins law v (place ∷ places) h =
    either (begins_now place) (list_any begins_now places) _ _ (place_begins law v place) (any_begins law v places) h

exchanged : (pads begins stir : Bool) → (begins ≡ true → stir ≡ true) → (pads || begins) ≡ true → (stir || pads) ≡ true
exchanged true begins stir f h = or_right stir true refl
exchanged false begins stir f h = or_left stir false (f h)

pub beginning_moves : FirstTicksStir → (r : Run) → begins_or_changes r ≡ true → moves_on quiet r ≡ true
unfolding moves_on begins_or_changes
beginning_moves law r h =
    exchanged (pads_change quiet r) (list_any begins_now r.state.machines) (machines_stir_over (pads_in quiet r.state) quiet r)
    (any_begins law (view_of r.memory (seen_in quiet r) r.state) r.state.machines) h

-- the same of two blocks
exchanged_two : (p q b c a e : Bool) → (b ≡ true → a ≡ true) → (c ≡ true → e ≡ true) → ((p || q) || (b || c)) ≡ true → ((a || p) || (e || q)) ≡ true
exchanged_two true q b c a e f g h = or_left (a || true) (e || q) (or_right a true refl)
exchanged_two false true b c a e f g h = or_right (a || false) (e || true) (or_right e true refl)
exchanged_two false false true c a e f g h = or_left (a || false) (e || false) (or_left a false (f refl))
exchanged_two false false false c a e f g h = or_right (a || false) (e || false) (or_left e false (g h))

pub beginning_moves_two : FirstTicksStir → (t : TwinRun) → twin_begins_or_changes t ≡ true → twin_moves_on quiet quiet t ≡ true
unfolding twin_moves_on twin_begins_or_changes
beginning_moves_two law t h =
    let pad = twin_pads_in quiet t in
    exchanged_two (pads_change_over pad t.first) (pads_change_over pad t.second) (list_any begins_now t.first.state.machines) (list_any begins_now t.second.state.machines) (machines_stir_over pad quiet t.first) (machines_stir_over pad quiet t.second)
    (any_begins law (view_of t.first.memory (seen_over pad t.first) t.first.state) t.first.state.machines)
    (any_begins law (view_of t.second.memory (seen_over pad t.second) t.second.state) t.second.state.machines) h

-- the tests of a block and of two, by the pads, and by the machines where the pads don't change
pub by_pads : (r : Run) (pad : ℕ) → pad ≡ pads_in quiet r.state → pads_change_over pad r ≡ true → true ≡ begins_or_changes r
unfolding begins_or_changes
by_pads r pad is h =
    sym (or_left (pads_change quiet r) (list_any begins_now r.state.machines) (ap (λ p. pads_change_over p r) (sym is) ∙ h))

pub by_machines : (r : Run) (pad : ℕ) → pad ≡ pads_in quiet r.state → pads_change_over pad r ≡ false → list_any begins_now r.state.machines ≡ begins_or_changes r
unfolding begins_or_changes
by_machines r pad is h =
    sym (ap (λ p. p || list_any begins_now r.state.machines) (ap (λ p. pads_change_over p r) (sym is) ∙ h))

pub twin_by_pads : (t : TwinRun) (pad : ℕ) → pad ≡ twin_pads_in quiet t → twin_pads_change pad t ≡ true → true ≡ twin_begins_or_changes t
unfolding twin_begins_or_changes
twin_by_pads t pad is h =
    sym (or_left (twin_pads_change (twin_pads_in quiet t) t) (list_any begins_now t.first.state.machines || list_any begins_now t.second.state.machines) (ap (λ p. twin_pads_change p t) (sym is) ∙ h))

pub twin_by_machines : (t : TwinRun) (pad : ℕ) → pad ≡ twin_pads_in quiet t → twin_pads_change pad t ≡ false → (list_any begins_now t.first.state.machines || list_any begins_now t.second.state.machines) ≡ twin_begins_or_changes t
unfolding twin_begins_or_changes
twin_by_machines t pad is h =
    sym (ap (λ p. p || (list_any begins_now t.first.state.machines || list_any begins_now t.second.state.machines)) (ap (λ p. twin_pads_change p t) (sym is) ∙ h))

-- a machine that is ready begins
ready_begins : (s : Slot) → is_ready (Some s) ≡ true → begins_now (Some s) ≡ true
ready_begins s h =
    let r = s.machine.registers in
    let parts = and_parts (has_tick s) (simple.is_ready s.machine.setup r) h in
    let rests = and_parts (r.delay == 0) (not r.begun && not (is_some r.pending)) (and_parts (not s.machine.setup.autopull) ((r.delay == 0) && (not r.begun && not (is_some r.pending))) parts.1).1 in
    and_from (has_tick s) (begins_next r) parts.0 (and_from (r.delay == 0) (not r.begun) rests.0 (and_parts (not r.begun) (not (is_some r.pending)) rests.1).0)

pub first_begins : (place : Option Slot) (others : List (Option Slot)) → is_ready place ≡ true → list_any begins_now (place ∷ others) ≡ true
first_begins None others h = cc
first_begins (Some s) others h = or_left (begins_now (Some s)) (list_any begins_now others) (ready_begins s h)

-- a block in which one begins moves on
pub by_beginning : (r : Run) (pad : ℕ) → pad ≡ pads_in quiet r.state → list_any begins_now r.state.machines ≡ true → true ≡ begins_or_changes r
unfolding begins_or_changes
by_beginning r pad is h = sym (or_right (pads_change quiet r) (list_any begins_now r.state.machines) h)
