-- One clock of the span's machine along the checker's table.
use Rattle.std.proofs.Common.{◌≡◌, ◌==◌, ℕ, ◌+◌, ◌≤◌, Bool, true, false, not, ◌&&◌, ◌⊎◌, if◌then◌else◌, cond, Option, Some, None, List, [], ◌∷◌, slice_index_or, refl, ap, sym, subst, ◌∙◌, inl, inr, arith}
use Rattle.std.specs.Int.{bit_at}
use Rattle.pin_matrix.specs.Pins.{last_of}
use Rattle.pin_matrix.specs.Spans.{signal_bits}
use Rattle.pin_matrix.specs.declared.machine.MachineSetup.{MachineSetup}
use Rattle.pin_matrix.specs.declared.setup.Setup.{Setup}
use Rattle.pin_matrix.specs.declared.span.PinSignal.{PinSignal}
use Rattle.pin_matrix.specs.declared.span.PinSignal.TheVariants.{Level}
use Rattle.pin_matrix.specs.declared.span.Span.{Span}
use Rattle.sm_registers.specs.declared.intent.Intent.{Intent}
use Rattle.sm_registers.specs.declared.intent.Kind.{Kind}
use Rattle.sm_registers.specs.declared.intent.Kind.TheVariants.{First, Late, Delay}
use Rattle.sm_registers.specs.Intents.{no_intent, two_writes}
use Rattle.sm_registers.specs.declared.registers.Registers.{Registers}
use Rattle.sm_registers.specs.View.{View}
use Rattle.sm_registers.specs.Queues.{Queues}
use Rattle.sm_registers.specs.State.{queues_of}
use Rattle.sm_registers.specs.Tick.{tick_of}
use Rattle.dreq_pacing.specs.declared.due.Due.{Due}
use Rattle.block_core.specs.Slots.{Slot, lined, has_tick, acted, settled_slot, slot_after, place_after, place_intent}
use Rattle.block_core.specs.Block.{BlockState, view_of}
use Rattle.block_core.specs.Following.{place_at, intent_in}
use Rattle.span_step.specs.declared.ages.Ages.{Ages}
use Rattle.span_step.specs.Contexts.{Context}
use Rattle.pin_matrix.specs.Assumptions.{keeps}
use Rattle.span_step.specs.Steps.{bounds_of, is_bounded}
use Rattle.span_ticks.specs.Rows.{IsSoundTable}
use Rattle.span_ticks.specs.UnderWay.{Flow, Watch, IsUnderWay, flow_of, is_excused_in}
use Rattle.span_ticks.specs.Following.{InAges, writes_to, level_after, is_late, finishes, works, kept_after, opens, closes, IsFollowed}
use Rattle.pin_matrix.specs.Pins.{is_high}
use Rattle.span_check.specs.Marks.{Mark, mark_of, counts, strays, names, pc_at, pending_at, excused_at, is_rested, keeps_at}
use Rattle.span_check.proofs.Counting.{one_if}
use Rattle.span_check.proofs.Premises.{Laws}
use Rattle.span_check.proofs.Levels.{level-none, changes-is_edge, no-edge, no-event, of-tick}

-- a number of ticks is one of the ages, and no more than the greatest bound where there is one
abbrev pub Fits : (bounded : Bool) → (max n : ℕ) → Ages → Type 0
Fits bounded max n ages = InAges bounded n ages × (bounded ≡ true → n ≤ max)

-- what a clock with such a mark makes of open from-edges, whose ages are these before it and those after it, unless they are
-- excused
pub record Goes (bounded : Bool) (min max : ℕ) (from to counting stray excused : Bool) (before after : Ages) : Type 0 where
  pub most : excused ≡ false → (n : ℕ) → Fits bounded max n before → bounded ≡ true → n + one_if counting ≤ max
  pub least : excused ≡ false → (n : ℕ) → Fits bounded max n before → to ≡ true → min ≤ n + one_if counting
  pub stays : excused ≡ false → (n : ℕ) → Fits bounded max n before → to ≡ false → Fits bounded max (n + one_if counting) after
  pub strays : excused ≡ false → (n : ℕ) → Fits bounded max n before → bounded ≡ true → stray ≡ false
  pub fresh : from ≡ true → Fits bounded max 0 after

-- what a machine does in a clock, with a tick or without, by the watch before it
record IsStep (u : Setup) (sp : Span) (rows : Context → Option Ages) (s : MachineSetup) (kept : Bool) (address : ℕ) (excused : Bool) (w : Watch) (act : Registers × Intent) : Type 0 where
  after : Watch
  under_way : (kept_after sp kept address act ≡ true) ⊎ (act.0.delay ≡ 0 → ⊥) → IsUnderWay u sp rows s (kept_after sp kept address act) (flow_of act.0) after
  from : after.from ≡ level_after sp.from_pin (two_writes (writes_to sp.from_signal act.1)) w.from
  to : after.to ≡ level_after sp.to_pin (two_writes (writes_to sp.to_signal act.1)) w.to
  goes : Goes (is_bounded sp) (bounds_of sp s).0 (bounds_of sp s).1 (opens sp address act.1 w after) (closes sp address act.1 w after) (counts act.1.kind (names sp address)) (strays act.1.kind (names sp address)) excused w.ages after.ages

-- how a tick counts, by its kind
record CountsAs (kind : Kind) (named : Bool) (writes : List (ℕ × ℕ)) : Type 0 where
  older : one_if (counts kind named) ≡ cond (is_late kind && named) 0 1
  stray : (is_late kind ≡ true → named ≡ true) → strays kind named ≡ false
  two : two_writes writes ≡ writes

counts_first : (named : Bool) (w x : ℕ × ℕ) → CountsAs First named (w ∷ x ∷ [])
counts_first named w x = record { older = refl; stray = λ h. refl; two = refl }

counts_delay : (named : Bool) (w x : ℕ × ℕ) → CountsAs Delay named (w ∷ x ∷ [])
counts_delay named w x = record { older = refl; stray = λ h. refl; two = refl }

counts_late : (named : Bool) (w x : ℕ × ℕ) → CountsAs Late named (w ∷ x ∷ [])
counts_late true w x = record { older = refl; stray = λ h. refl; two = refl }
counts_late false w x = record { older = refl; stray = λ h. absurd (no (h refl)); two = refl } where
  no : false ≡ true → ⊥
  no e = cc

-- so the level after its writes is that after two
two_alike : (watched : Option PinSignal) (p : ℕ) (level : Bool) (i : Intent) → ((signal : PinSignal) → two_writes (writes_to (Some signal) i) ≡ writes_to (Some signal) i)
    → level_after p (writes_to watched i) level ≡ level_after p (two_writes (writes_to watched i)) level
two_alike None p level i two = sym (level-none None p level)
two_alike (Some signal) p level i two = ap (λ writes. level_after p writes level) (sym (two signal))

-- a machine that is under way has no word pending
none_pending : (u : Setup) (sp : Span) (rows : Context → Option Ages) (s : MachineSetup) (kept : Bool) (f : Flow) (w : Watch) → IsUnderWay u sp rows s kept f w → f.pending ≡ None
none_pending u sp rows s kept f w (inl h) = h.pending
none_pending u sp rows s kept f w (inr h) = h.1.pending

-- where the machine is at the start of a clock, by whether its last instruction left X and Y as assumed
pub record IsGoing (u : Setup) (sp : Span) (rows : Context → Option Ages) (s : MachineSetup) (kept : Bool) (b : BlockState) (m : Slot) (w : Watch) : Type 0 where
  pub slot : place_at b sp.machine ≡ Some m
  pub setup : m.machine.setup ≡ s
  pub under_way : IsUnderWay u sp rows s kept (flow_of m.machine.registers) w
  pub from : w.from ≡ is_high (signal_bits sp.from_signal b.levels b.directions) sp.from_pin
  pub to : w.to ≡ is_high (signal_bits sp.to_signal b.levels b.directions) sp.to_pin

-- what the block's laws say of the two pins and of the place, as premises: the state after a clock
pub record IsAfter (sp : Span) (memory : List ℕ) (seen : ℕ) (d : Due) (before after : BlockState) : Type 0 where
  pub place : place_at after sp.machine ≡ place_after (view_of memory seen before) d (place_at before sp.machine)
  pub from : bit_at (signal_bits sp.from_signal after.levels after.directions) sp.from_pin
      ≡ last_of sp.from_pin (bit_at (signal_bits sp.from_signal before.levels before.directions) sp.from_pin) (two_writes (writes_to sp.from_signal (intent_in memory seen d before sp.machine)))
  pub to : bit_at (signal_bits sp.to_signal after.levels after.directions) sp.to_pin
      ≡ last_of sp.to_pin (bit_at (signal_bits sp.to_signal before.levels before.directions) sp.to_pin) (two_writes (writes_to sp.to_signal (intent_in memory seen d before sp.machine)))

-- The machine goes on, unless it rests after an instruction that left X or Y otherwise than assumed, and the mark is as the table
-- says.
pub record GoesOn (u : Setup) (sp : Span) (rows : Context → Option Ages) (s : MachineSetup) (kept : Bool) (after : BlockState) (k : Mark) (ages : Ages) : Type 0 where
  pub m : Slot
  pub w : Watch
  pub keeps : Bool
  pub misses : keeps ≡ false → (k.misses ≡ true) ⊎ (kept ≡ false)
  pub going : (k.rested ≡ true → keeps ≡ true) → IsGoing u sp rows s keeps after m w
  pub goes : Goes (is_bounded sp) (bounds_of sp s).0 (bounds_of sp s).1 k.from k.to k.counts k.strays k.excused ages w.ages

-- where an instruction that ends leaves X or Y otherwise the clock misses it, and where none ends it was so before
missed : (ends keeps kept : Bool) → (if ends then keeps else kept) ≡ false → ((ends && not keeps) ≡ true) ⊎ (kept ≡ false)
missed true true kept e = cc
missed true false kept e = inl refl
missed false keeps kept e = inr e

-- what the clock's mark says of a rest
still : (keeps : Bool) (delay : ℕ) → ((delay == 0) ≡ true → keeps ≡ true) → (keeps ≡ true) ⊎ (delay ≡ 0 → ⊥)
still true delay h = inl refl
still false delay h = inr (λ e. let x : false ≡ true = h (rw e refl) in cc)

-- along a sound table
module _ (laws : Laws) (u : Setup) (sp : Span) (rows : Context → Option Ages) (s : MachineSetup) (configured : slice_index_or u.machines sp.machine None ≡ Some s) (sound : IsSoundTable u sp rows) where
  -- a tick
  ticked : (v : View) (q : Queues) (r : Registers) (kept : Bool) (w : Watch) → IsFollowed u sp rows s kept r.pc (is_excused_in sp (flow_of r)) w (tick_of s v q r) → IsStep u sp rows s kept r.pc (is_excused_in sp (flow_of r)) w (tick_of s v q r)
  ticked v q r kept w f =
      let named = names sp r.pc in
      let as_signal : (signal : PinSignal) → CountsAs (tick_of s v q r).1.kind named (writes_to (Some signal) (tick_of s v q r).1) =
      λ signal. of-tick signal (λ kind writes. CountsAs kind named writes) (counts_delay named) (counts_first named) (counts_late named) s v q r in
      let kinds : CountsAs (tick_of s v q r).1.kind named (writes_to (Some Level) (tick_of s v q r).1) = as_signal Level in
      let two : (watched : Option PinSignal) (p : ℕ) (level : Bool) → level_after p (writes_to watched (tick_of s v q r).1) level ≡ level_after p (two_writes (writes_to watched (tick_of s v q r).1)) level =
      λ watched p level. two_alike watched p level (tick_of s v q r).1 (λ signal. (as_signal signal).two) in
      record {
        after = f.after;
        under_way = f.under_way;
        from = f.from ∙ two sp.from_signal sp.from_pin w.from;
        to = f.to ∙ two sp.to_signal sp.to_pin w.to;
        goes = record {
          most = λ free n h b. rw kinds.older ((f.ages free n h.0).most b);
          least = λ free n h e. rw kinds.older ((f.ages free n h.0).least e);
          stays = λ free n h e. rw kinds.older ((f.ages free n h.0).stays e, (f.ages free n h.0).most);
          strays = λ free n h b. kinds.stray ((f.ages free n h.0).named b);
          fresh = λ e. (f.fresh e, λ b. omega arith);
        };
      }

  -- a clock without a tick
  idle : (r : Registers) (kept : Bool) (w : Watch) → IsUnderWay u sp rows s kept (flow_of r) w → IsStep u sp rows s kept r.pc (is_excused_in sp (flow_of r)) w (r, no_intent)
  idle r kept w way = record {
    after = w;
    under_way = λ stays. way;
    from = sym (level-none sp.from_signal sp.from_pin w.from);
    to = sym (level-none sp.to_signal sp.to_pin w.to);
    goes = record {
      most = λ free n h b. omega (arith, h.1 b);
      least = λ free n h e. absurd (never (sym (no-event sp.to_signal sp.to_at r.pc _ false false (no-edge sp.to_rise w.to) refl) ∙ e));
      stays = λ free n h e. subst (λ k. Fits (is_bounded sp) (bounds_of sp s).1 k w.ages) (no_more n) h;
      strays = λ free n h b. refl;
      fresh = λ e. absurd (never (sym (no-event sp.from_signal sp.from_at r.pc _ false false (no-edge sp.from_rise w.from) refl) ∙ e));
    };
  } where
    never : false ≡ true → ⊥
    never e = cc

    no_more : (n : ℕ) → n ≡ n + 0
    no_more n = omega arith

  -- a machine in a clock
  stepped : (v : View) (m : Slot) (kept : Bool) (w : Watch) → v.memory ≡ u.memory → m.machine.setup ≡ s → IsUnderWay u sp rows s kept (flow_of m.machine.registers) w → (d : Due) → IsStep u sp rows s kept m.machine.registers.pc (is_excused_in sp (flow_of m.machine.registers)) w (acted v (lined d m))
  unfolding acted
  stepped v m kept w memory setup way d =
      let q = queues_of m.machine.ports.fifos in
      let r = m.machine.registers in
      let excused : Bool = is_excused_in sp (flow_of r) in
      let tick : IsStep u sp rows s kept r.pc excused w (tick_of m.machine.setup v q r) =
      rw setup (ticked v q r kept w (laws.ticks u sp rows s v q r kept w configured sound memory way)) in
      elim (has_tick (lined d m)) as (λ b. IsStep u sp rows s kept r.pc excused w (cond b (tick_of m.machine.setup v q r) (r, no_intent))) [
        | true ↦ tick
        | false ↦ idle r kept w way
      ]

  -- the level of a pin, or its direction
  pin_level : (p old new : ℕ) (writes : List (ℕ × ℕ)) (before after : Bool) → new ≡ last_of p old writes → before ≡ (old == 1) → after ≡ level_after p writes before → after ≡ (new == 1)
  pin_level p old new writes before after e f g = g ∙ ap (level_after p writes) f ∙ laws.levels p writes old ∙ sym (ap (λ n. n == 1) e)

  goes_on : (seen : ℕ) (d : Due) (before after : BlockState) (m : Slot) (kept : Bool) (w : Watch) → IsAfter sp u.memory seen d before after → IsGoing u sp rows s kept before m w
      → IsStep u sp rows s kept m.machine.registers.pc (is_excused_in sp (flow_of m.machine.registers)) w (acted (view_of u.memory seen before) (lined d m)) → GoesOn u sp rows s kept after (mark_of sp u.memory seen d before after) w.ages
  unfolding mark_of settled_slot
  goes_on seen d before after m kept w h g step =
      let v = view_of u.memory seen before in
      let from_before = signal_bits sp.from_signal before.levels before.directions in
      let from_after = signal_bits sp.from_signal after.levels after.directions in
      let to_before = signal_bits sp.to_signal before.levels before.directions in
      let to_after = signal_bits sp.to_signal after.levels after.directions in
      let intent : intent_in u.memory seen d before sp.machine ≡ (acted v (lined d m)).1 = ap (place_intent v d) g.slot in
      let pc : pc_at (place_at before sp.machine) ≡ m.machine.registers.pc = ap pc_at g.slot in
      let plain : pending_at (place_at before sp.machine) ≡ None = ap pending_at g.slot ∙ none_pending u sp rows s kept (flow_of m.machine.registers) w g.under_way in
      let stands : excused_at sp (place_at before sp.machine) ≡ is_excused_in sp (flow_of m.machine.registers) = ap (excused_at sp) g.slot in
      let from : step.after.from ≡ is_high from_after sp.from_pin =
      pin_level sp.from_pin _ _ _ w.from step.after.from (h.from ∙ ap (λ (i : Intent). last_of sp.from_pin (bit_at from_before sp.from_pin) (two_writes (writes_to sp.from_signal i))) intent) g.from step.from in
      let to : step.after.to ≡ is_high to_after sp.to_pin =
      pin_level sp.to_pin _ _ _ w.to step.after.to (h.to ∙ ap (λ (i : Intent). last_of sp.to_pin (bit_at to_before sp.to_pin) (two_writes (writes_to sp.to_signal i))) intent) g.to step.to in
      let act = acted v (lined d m) in
      let there : place_at after sp.machine ≡ Some (slot_after v d m) = h.place ∙ ap (place_after v d) g.slot in
      let rests : is_rested (place_at after sp.machine) ≡ (act.0.delay == 0) = ap is_rested there in
      let so : keeps_at sp m.machine.registers.pc (place_at after sp.machine) ≡ keeps sp.assume m.machine.registers.pc act.0.x act.0.y = ap (keeps_at sp m.machine.registers.pc) there in
      record {
        m = slot_after v d m;
        w = step.after;
        keeps = kept_after sp kept m.machine.registers.pc act;
        misses = λ e. rw (intent, pc, plain, so) (missed (finishes (works act.1.kind None) act.1.stalled) (keeps sp.assume m.machine.registers.pc act.0.x act.0.y) kept e);
        going = λ stays. record {
          slot = there;
          setup = g.setup;
          under_way = step.under_way (still (kept_after sp kept m.machine.registers.pc act) act.0.delay (λ e. stays (rests ∙ e)));
          from = from;
          to = to;
        };
        goes = rw (intent, pc, plain, stands, changes-is_edge sp.from_rise (is_high from_before sp.from_pin) (is_high from_after sp.from_pin), changes-is_edge sp.to_rise (is_high to_before sp.to_pin) (is_high to_after sp.to_pin), ← g.from, ← g.to, ← from, ← to) step.goes;
      }

  pub one_clock : (seen : ℕ) (d : Due) (before after : BlockState) (m : Slot) (kept : Bool) (w : Watch) → IsAfter sp u.memory seen d before after → IsGoing u sp rows s kept before m w → GoesOn u sp rows s kept after (mark_of sp u.memory seen d before after) w.ages
  one_clock seen d before after m kept w h g =
      goes_on seen d before after m kept w h g (stepped (view_of u.memory seen before) m kept w refl g.setup g.under_way d)
