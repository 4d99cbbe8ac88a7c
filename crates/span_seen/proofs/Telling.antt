-- What is told of a clock is what a span looks at in it: its events, and whether it speaks of the from-events before.
use Rattle.std.proofs.Common.{◌≡◌, ℕ, zero, suc, ◌==◌, ◌⊎◌, inl, inr, Bool, true, false, not, ◌&&◌, ◌||◌, cond, Option, Some, None, option_map, is_some, List, [], ◌∷◌, length, map, slice_index_or, refl, sym, ap, ap₂, ◌∙◌}
use Rattle.std.proofs.Math.Bool.{and_comm}
use Rattle.std.proofs.lemmas.Bool.{or_parts, eq-eqb}
use Rattle.std.proofs.Math.ListN.{get_or-map}
use Rattle.std.specs.List.{list_any}
use Rattle.pin_matrix.specs.declared.span.PinSignal.{PinSignal}
use Rattle.pin_matrix.specs.declared.span.Span.{Span}
use Rattle.sm_registers.specs.declared.intent.Kind.{Kind}
use Rattle.sm_registers.specs.declared.intent.Kind.TheVariants.{Off, First, Late, Delay}
use Rattle.sm_registers.specs.Idling as idling
use Rattle.sm_registers.specs.Idling.{begins}
use Rattle.sm_registers.specs.View.{View}
use Rattle.dreq_pacing.specs.declared.due.Due.{Due}
use Rattle.block_core.specs.declared.conduct.Conduct.{Conduct}
use Rattle.block_core.specs.Block.{BlockState, Run, next, seen_in, stepped, view_of}
use Rattle.block_core.specs.Conduct.{conduct_after, conduct_in, has_new_pins, is_broken_by, is_lined_by, is_machine_noted, is_noted, machine_conduct}
use Rattle.block_core.specs.Following.{place_at}
use Rattle.block_core.specs.Inside.{is_of_an_instruction}
use Rattle.block_core.specs.Slots.{Slot, place_after, slot_after, slot_intent}
use Rattle.span_step.specs.Steps.{is_among, is_event, is_excusing, is_left_out}
use Rattle.span_ticks.specs.Following.{finishes, works}
use Rattle.span_ticks.specs.UnderWay.{flow_of, stands_before}
use Rattle.span_check.specs.Marks.{Mark, excused_at, has_signal_edge, is_broken, mark_of}
use Rattle.span_meter.specs.declared.pins.ShownPins.{ShownPins}
use Rattle.span_meter.specs.Events as events
use Rattle.span_meter.specs.Events.{comes, conduct_of, events_in, is_dropped, pins_told}
use Rattle.span_meter.specs.Measured.{pins_in}
use Rattle.span_meter.specs.Spoken as spoken
use Rattle.span_meter.proofs.Telling.{no_edge}
use Rattle.span_meter.proofs.ConductLists.{kept_pins}
use Rattle.span_seen.proofs.Staying.{stays_excused}

-- What a mark of what is told says of the span's own mark of the clock. The events are the same. If it drops no from-event, the clock
-- excuses none, where a to-event comes in it or `next` says that the clock after it excuses none; and no line breaks a span that is
-- cut.
pub record IsTold (cut : Bool) (m : Mark) (next : Bool) (t : spoken.Mark) : Type 0 where
  pub from : t.from ≡ m.from
  pub to : t.to ≡ m.to
  pub free : t.drops ≡ false → (t.to ≡ true) ⊎ (next ≡ false) → m.excused ≡ false
  pub calm : cut ≡ true → t.drops ≡ false → m.breaks ≡ false

-- the span's machine at its place, in this clock
pub record IsOwn (b : BlockState) (id clock : ℕ) : Type 0 where
  pub slot : Slot
  pub place : place_at b id ≡ Some slot
  pub number : slot.machine.setup.id ≡ id
  pub clock_is : slot.timing.clock ≡ clock

-- by both a machine works at its instruction, and finishes it
works_same : (kind : Kind) (pending : Option ℕ) → (is_of_an_instruction kind && not (is_some pending)) ≡ works kind pending
works_same Off pending = refl
works_same First pending = refl
works_same Late pending = refl
works_same Delay pending = refl

pub ends_same : (kind : Kind) (pending : Option ℕ) (stalled : Bool) → (idling.finishes kind stalled && not (is_some pending)) ≡ finishes (works kind pending) stalled
ends_same Off pending stalled = refl
ends_same First pending stalled = and_comm (not stalled) (not (is_some pending))
ends_same Late pending stalled = and_comm (not stalled) (not (is_some pending))
ends_same Delay pending stalled = refl

-- an event of a clock of note
noted_event : (signal : Option PinSignal) (at : List ℕ) (pin : ℕ) (rise : Bool) (b a : BlockState) (clock : ℕ) (v : View) (d : Due) (s : Slot)
    → let i = slot_intent v d s in let w = works i.kind s.machine.registers.pending in
    comes (record { pin = pin; signal = signal; rise = rise; at = at }) (pins_in b) (pins_in a) (Some (machine_conduct clock v d s))
    ≡ is_event signal at s.machine.registers.pc (has_signal_edge signal pin rise b a) w (finishes w i.stalled)
unfolding machine_conduct
noted_event None at pin rise b a clock v d s =
    let i = slot_intent v d s in
    ap (λ (x : Bool). x && is_among at s.machine.registers.pc) (ends_same i.kind s.machine.registers.pending i.stalled)
noted_event (Some signal) at pin rise b a clock v d s =
    let i = slot_intent v d s in
    ap (λ (x : Bool). has_signal_edge (Some signal) pin rise b a && (length at == 0 || (x && is_among at s.machine.registers.pc))) (works_same i.kind s.machine.registers.pending)

-- none comes where the pins stay and no instruction finishes
quiet_event : (signal : Option PinSignal) (at : List ℕ) (address pin : ℕ) (rise : Bool) (b a : BlockState) (works ends : Bool) → pins_in b ≡ pins_in a → ends ≡ false
    → is_event signal at address (has_signal_edge signal pin rise b a) works ends ≡ false
quiet_event None at address pin rise b a works ends same none = ap (λ (x : Bool). x && is_among at address) none
quiet_event (Some signal) at address pin rise b a works ends same none =
    ap (λ (x : Bool). x && (length at == 0 || (works && is_among at address))) (no_edge (Some signal) pin rise (pins_in b) (pins_in a) (sym same))

quiet_comes : (signal : Option PinSignal) (at : List ℕ) (pin : ℕ) (rise : Bool) (before after : ShownPins) → after ≡ before → comes (record { pin = pin; signal = signal; rise = rise; at = at }) before after None ≡ false
quiet_comes None at pin rise before after same = refl
quiet_comes (Some signal) at pin rise before after same = ap (λ (x : Bool). x && events.is_made_at at None) (no_edge (Some signal) pin rise before after same)

-- what a clock that isn't of note leaves
pub record IsQuiet (v : View) (d : Due) (s : Slot) (b a : BlockState) : Type 0 where
  pub pins : pins_in b ≡ pins_in a
  pub lined : is_lined_by d s.machine.setup.id ≡ false
  pub begins : begins (slot_intent v d s).kind ≡ false
  pub ends : idling.finishes (slot_intent v d s).kind (slot_intent v d s).stalled ≡ false

no_machine : (v : View) (d : Due) (places : List (Option Slot)) (id : ℕ) (s : Slot) → list_any (is_machine_noted v d) places ≡ false → slice_index_or places id None ≡ Some s → is_machine_noted v d (Some s) ≡ false
no_machine v d [] id s h e = cc
no_machine v d (place ∷ places) zero s h e = ap (is_machine_noted v d) (sym e) ∙ (or_parts (is_machine_noted v d place) (list_any (is_machine_noted v d) places) h).0
no_machine v d (place ∷ places) (suc id) s h e = no_machine v d places id s (or_parts (is_machine_noted v d place) (list_any (is_machine_noted v d) places) h).1 e

pub is_quiet : (d : Due) (r : Run) (id : ℕ) (s : Slot) → place_at r.state id ≡ Some s → is_noted d r ≡ false → IsQuiet (view_of r.memory (seen_in d r) r.state) d s r.state (next d r).state
unfolding is_noted
is_quiet d r id s place calm =
    let v = view_of r.memory (seen_in d r) r.state in
    let i = slot_intent v d s in
    let halves = or_parts (list_any (is_machine_noted v d) r.state.machines) (has_new_pins r.state (next d r).state) calm in
    let noted = or_parts (is_lined_by d s.machine.setup.id) (begins i.kind || idling.finishes i.kind i.stalled) (no_machine v d r.state.machines id s halves.0 place) in
    let ticks = or_parts (begins i.kind) (idling.finishes i.kind i.stalled) noted.1 in
    record { pins = kept_pins d r calm; lined = noted.0; begins = ticks.0; ends = ticks.1 }

-- the machine's place after the clock
pub place_next : (d : Due) (r : Run) (id : ℕ) → place_at (next d r).state id ≡ place_after (view_of r.memory (seen_in d r) r.state) d (place_at r.state id)
unfolding next stepped
place_next d r id = get_or-map (place_after (view_of r.memory (seen_in d r) r.state) d) r.state.machines id None

-- a clock of note
with_own : (sp : Span) (v : View) (d : Due) (r : Run) (s : Slot) → place_at r.state sp.machine ≡ Some s → slice_index_or (map (option_map (machine_conduct r.clock v d)) r.state.machines) sp.machine None ≡ Some (machine_conduct r.clock v d s)
with_own sp v d r s place = get_or-map (option_map (machine_conduct r.clock v d)) r.state.machines sp.machine None ∙ ap (option_map (machine_conduct r.clock v d)) place

pub noted_machine : (sp : Span) (d : Due) (r : Run) (c : ℕ) (s : Slot) → r.clock ≡ c → place_at r.state sp.machine ≡ Some s
    → conduct_of c sp.machine (conduct_in d r) ≡ Some (machine_conduct r.clock (view_of r.memory (seen_in d r) r.state) d s)
unfolding conduct_in
noted_machine sp d r c s at place =
    let machines = map (option_map (machine_conduct r.clock (view_of r.memory (seen_in d r) r.state) d)) r.state.machines in
    ap (λ (b : Bool). cond b (slice_index_or machines sp.machine None) None) (eq-eqb r.clock c at) ∙ with_own sp (view_of r.memory (seen_in d r) r.state) d r s place

noted_pins : (d : Due) (r : Run) → pins_told (conduct_in d r) ≡ pins_in (next d r).state
unfolding conduct_in
noted_pins d r = refl

-- the mark of a span whose machine this is
own_from : (sp : Span) (memory : List ℕ) (seen : ℕ) (d : Due) (b a : BlockState) (s : Slot) → place_at b sp.machine ≡ Some s
    → let i = slot_intent (view_of memory seen b) d s in let w = works i.kind s.machine.registers.pending in
    (mark_of sp memory seen d b a).from ≡ is_event sp.from_signal sp.from_at s.machine.registers.pc (has_signal_edge sp.from_signal sp.from_pin sp.from_rise b a) w (finishes w i.stalled)
unfolding mark_of
own_from sp memory seen d b a s place = rw place refl

own_to : (sp : Span) (memory : List ℕ) (seen : ℕ) (d : Due) (b a : BlockState) (s : Slot) → place_at b sp.machine ≡ Some s
    → let i = slot_intent (view_of memory seen b) d s in let w = works i.kind s.machine.registers.pending in
    (mark_of sp memory seen d b a).to ≡ is_event sp.to_signal sp.to_at s.machine.registers.pc (has_signal_edge sp.to_signal sp.to_pin sp.to_rise b a) w (finishes w i.stalled)
unfolding mark_of
own_to sp memory seen d b a s place = rw place refl

own_excused : (sp : Span) (memory : List ℕ) (seen : ℕ) (d : Due) (b a : BlockState) (s : Slot) → place_at b sp.machine ≡ Some s → (mark_of sp memory seen d b a).excused ≡ excused_at sp (Some s)
unfolding mark_of
own_excused sp memory seen d b a s place = ap (excused_at sp) place

own_breaks : (sp : Span) (memory : List ℕ) (seen : ℕ) (d : Due) (b a : BlockState) → (mark_of sp memory seen d b a).breaks ≡ is_broken d sp.machine
unfolding mark_of
own_breaks sp memory seen d b a = refl

-- what drops in a clock of note
no_drop : (x y z : Bool) → (x || (y || z)) ≡ false → (x || y) ≡ false
no_drop true y z h = cc
no_drop false true z h = cc
no_drop false false z h = refl

no_break : (x y cut z : Bool) → (x || (y || (cut && z))) ≡ false → cut ≡ true → z ≡ false
no_break true y cut z h e = cc
no_break false true cut z h e = cc
no_break false false true z h e = h
no_break false false false z h e = cc

noted_free : (sp : Span) (clock : ℕ) (v : View) (d : Due) (s : Slot) → is_dropped (events_in sp) (Some (machine_conduct clock v d s)) ≡ false → excused_at sp (Some s) ≡ false
unfolding machine_conduct
noted_free sp clock v d s h =
    let r = s.machine.registers in
    no_drop (r.begun && is_excusing sp r.pc) (stands_before (flow_of r) && is_left_out sp r.pc) ((events_in sp).cut && is_broken_by d s.machine.setup.id) h

noted_calm : (sp : Span) (clock : ℕ) (v : View) (d : Due) (s : Slot) → (events_in sp).cut ≡ true → is_dropped (events_in sp) (Some (machine_conduct clock v d s)) ≡ false → is_broken_by d s.machine.setup.id ≡ false
unfolding machine_conduct
noted_calm sp clock v d s cut h =
    let r = s.machine.registers in
    no_break (r.begun && is_excusing sp r.pc) (stands_before (flow_of r) && is_left_out sp r.pc) (events_in sp).cut (is_broken_by d s.machine.setup.id) h cut

-- the span's own mark of the clock
abbrev pub clock_mark : Span → Due → Run → Mark
clock_mark sp d r = mark_of sp r.memory (seen_in d r) d r.state (next d r).state

noted : (sp : Span) (d : Due) (r : Run) (c : ℕ) (next_excused : Bool) → r.clock ≡ c → (own : IsOwn r.state sp.machine c) → IsTold (events_in sp).cut (clock_mark sp d r) next_excused (events.mark_of (events_in sp) c (pins_in r.state) (conduct_in d r))
noted sp d r c next_excused at own =
    let s = own.slot in
    let b = r.state in
    let a = (next d r).state in
    let v = view_of r.memory (seen_in d r) b in
    let e = events_in sp in
    let m = noted_machine sp d r c s at own.place in
    let pins = noted_pins d r in
    let drops : is_dropped e (conduct_of c sp.machine (conduct_in d r)) ≡ is_dropped e (Some (machine_conduct r.clock v d s)) = ap (is_dropped e) m in
    record {
      from = ap₂ (comes e.from (pins_in b)) pins m ∙ noted_event sp.from_signal sp.from_at sp.from_pin sp.from_rise b a r.clock v d s ∙ sym (own_from sp r.memory (seen_in d r) d b a s own.place);
      to = ap₂ (comes e.to (pins_in b)) pins m ∙ noted_event sp.to_signal sp.to_at sp.to_pin sp.to_rise b a r.clock v d s ∙ sym (own_to sp r.memory (seen_in d r) d b a s own.place);
      free = λ h either. own_excused sp r.memory (seen_in d r) d b a s own.place ∙ noted_free sp r.clock v d s (sym drops ∙ h);
      calm = λ cut h. own_breaks sp r.memory (seen_in d r) d b a ∙ ap (λ (id : ℕ). is_broken d id) (sym own.number) ∙ noted_calm sp r.clock v d s cut (sym drops ∙ h);
    }

-- no instruction ends in a clock that isn't
pub none_ends : (v : View) (d : Due) (s : Slot) → let i = slot_intent v d s in idling.finishes i.kind i.stalled ≡ false → finishes (works i.kind s.machine.registers.pending) i.stalled ≡ false
none_ends v d s none =
    let i = slot_intent v d s in
    sym (ends_same i.kind s.machine.registers.pending i.stalled) ∙ ap (λ (x : Bool). x && not (is_some s.machine.registers.pending)) none

by_contrary : (b c : Bool) → (b ≡ true → c ≡ true) → c ≡ false → b ≡ false
by_contrary true c h none = let z : true ≡ false = sym (h refl) ∙ none in cc
by_contrary false c h none = refl

either_no : (event next now : Bool) → event ≡ false → (next ≡ false → now ≡ false) → (event ≡ true) ⊎ (next ≡ false) → now ≡ false
either_no event next now none h (inl k) = let z : true ≡ false = sym k ∙ none in cc
either_no event next now none h (inr k) = h k

unnoted : (sp : Span) (d : Due) (r : Run) (last : Conduct) (c : ℕ) → (own : IsOwn r.state sp.machine c) → conduct_of c sp.machine last ≡ None → pins_told last ≡ pins_in r.state → is_noted d r ≡ false
    → IsTold (events_in sp).cut (clock_mark sp d r) (excused_at sp (place_at (next d r).state sp.machine)) (events.mark_of (events_in sp) c (pins_in r.state) last)
unnoted sp d r last c own past pins calm =
    let s = own.slot in
    let b = r.state in
    let a = (next d r).state in
    let v = view_of r.memory (seen_in d r) b in
    let i = slot_intent v d s in
    let e = events_in sp in
    let w = works i.kind s.machine.registers.pending in
    let q = is_quiet d r sp.machine s own.place calm in
    let ends = none_ends v d s q.ends in
    let m = conduct_of c sp.machine last in
    let no_to : comes e.to (pins_in b) (pins_told last) m ≡ false = ap (comes e.to (pins_in b) (pins_told last)) past ∙ quiet_comes sp.to_signal sp.to_at sp.to_pin sp.to_rise (pins_in b) (pins_told last) pins in
    let no_from : comes e.from (pins_in b) (pins_told last) m ≡ false = ap (comes e.from (pins_in b) (pins_told last)) past ∙ quiet_comes sp.from_signal sp.from_at sp.from_pin sp.from_rise (pins_in b) (pins_told last) pins in
    let after : excused_at sp (place_at a sp.machine) ≡ excused_at sp (Some (slot_after v d s)) = ap (excused_at sp) (place_next d r sp.machine ∙ ap (place_after v d) own.place) in
    let by_next : (comes e.to (pins_in b) (pins_told last) m ≡ true) ⊎ (excused_at sp (place_at a sp.machine) ≡ false) → excused_at sp (Some s) ≡ false =
    either_no (comes e.to (pins_in b) (pins_told last) m) (excused_at sp (place_at a sp.machine)) (excused_at sp (Some s)) no_to
    (by_contrary (excused_at sp (Some s)) (excused_at sp (place_at a sp.machine)) (λ h. after ∙ stays_excused sp v d s q.begins q.ends h)) in
    record {
      from = no_from ∙ sym (own_from sp r.memory (seen_in d r) d b a s own.place ∙ quiet_event sp.from_signal sp.from_at s.machine.registers.pc sp.from_pin sp.from_rise b a w (finishes w i.stalled) q.pins ends);
      to = no_to ∙ sym (own_to sp r.memory (seen_in d r) d b a s own.place ∙ quiet_event sp.to_signal sp.to_at s.machine.registers.pc sp.to_pin sp.to_rise b a w (finishes w i.stalled) q.pins ends);
      free = λ h either. own_excused sp r.memory (seen_in d r) d b a s own.place ∙ by_next either;
      calm = λ cut h. own_breaks sp r.memory (seen_in d r) d b a ∙ ap (λ (id : ℕ). is_broken d id) (sym own.number) ∙ (or_parts (is_broken_by d s.machine.setup.id) (slice_index_or d.enable s.machine.setup.id false) q.lined).0;
    }

pub clock_told : (sp : Span) (d : Due) (r : Run) (last : Conduct) (c : ℕ) → r.clock ≡ c → IsOwn r.state sp.machine c → conduct_of c sp.machine last ≡ None → pins_told last ≡ pins_in r.state
    → IsTold (events_in sp).cut (clock_mark sp d r) (excused_at sp (place_at (next d r).state sp.machine)) (events.mark_of (events_in sp) c (pins_in r.state) (conduct_after d r last))
clock_told sp d r last c at own past pins = on (is_noted d r) refl where
  on : (b : Bool) → is_noted d r ≡ b → IsTold (events_in sp).cut (clock_mark sp d r) (excused_at sp (place_at (next d r).state sp.machine)) (events.mark_of (events_in sp) c (pins_in r.state) (cond b (conduct_in d r) last))
  on true e = noted sp d r c (excused_at sp (place_at (next d r).state sp.machine)) at own
  on false e = unnoted sp d r last c own past pins e
