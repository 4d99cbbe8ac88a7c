-- One clock of the machine in its block, with a tick or without.
use Rattle.std.proofs.Common.{◌≡◌, ◌==◌, ℕ, suc, ◌⊎◌, Bool, true, false, ◌&&◌, ◌||◌, cond, Option, Some, List, [], unwrap_or, slice_index_or, inl, inr, refl, sym, ap, subst, ◌∙◌, add-one}
use Rattle.std.specs.Int.{bit_at}
use Rattle.clock_divider.specs.Timing.{Timing}
use Rattle.clock_divider.specs.Timing as timing
use Rattle.clock_divider.specs.Ticks.{is_tick}
use Rattle.pin_matrix.specs.Pins.{last_of}
use Rattle.pin_matrix.specs.declared.machine.MachineSetup.{MachineSetup}
use Rattle.pin_matrix.specs.declared.span.PinSignal.{PinSignal}
use Rattle.pin_matrix.specs.declared.span.PinSignal.TheVariants.{Level}
use Rattle.pin_matrix.specs.declared.span.Span.{Span}
use Rattle.sm_registers.specs.declared.intent.Intent.{Intent}
use Rattle.sm_registers.specs.Intents.{no_intent, two_writes}
use Rattle.sm_registers.specs.declared.registers.Registers.{Registers}
use Rattle.sm_registers.specs.View.{View}
use Rattle.sm_registers.specs.State.{queues_of}
use Rattle.sm_registers.specs.Tick.{tick_of}
use Rattle.dreq_pacing.specs.declared.due.Due.{Due}
use Rattle.block_core.specs.Slots.{Slot, lined, has_tick, acted, settled_slot, slot_after, place_after, place_intent}
use Rattle.block_core.specs.Block.{BlockState, view_of}
use Rattle.block_core.specs.Following.{place_at, intent_in}
use Rattle.span_step.specs.Courses.{Rules, closes, comes, is_edge, opens, watched}
use Rattle.span_ticks.specs.Following.{finishes, level_after, works}
use Rattle.pin_matrix.specs.Pins.{is_high}
use Rattle.block_core.specs.Edges.{changes}
use Rattle.span_check.specs.Marks.{Mark, mark_of, counts, names, pc_at, pending_at, has_signal_edge}
use Rattle.span_check.specs.Runs.{marks_over}
use Rattle.span_refuted.specs.OneWay.{IsSimple}
use Rattle.span_refuted.proofs.Single.{Watch, Tick}
use Rattle.span_refuted.proofs.Joining.{IsClean, clean_joined}
use Rattle.span_refuted.proofs.Registers.{IsRest, IsTick, no_levels}
use Rattle.span_step.specs.Steps.{is_bounded, is_event}
use Rattle.span_refuted.proofs.Exact.{AreExact, IsFree, IsBrokenBy, IsRuled, exact_tick, exact_idle}

-- what a law of span_ticks says
abbrev pub AreLevels : Type 0
AreLevels = (p : ℕ) (writes : List (ℕ × ℕ)) (old : ℕ) → level_after p writes (old == 1) ≡ (last_of p old writes == 1)

-- the system does nothing in this clock that enables, disables or restarts the machine
pub record IsLeft (d : Due) (id : ℕ) : Type 0 where
  pub enable : slice_index_or d.enable id false ≡ false
  pub disable : slice_index_or d.disable id false ≡ false
  pub restart : slice_index_or d.restart id false ≡ false

-- the state after a clock of a run in which no other machine writes the two pins
pub record IsAfter (sp : Span) (memory : List ℕ) (seen : ℕ) (d : Due) (before after : BlockState) : Type 0 where
  pub left : IsLeft d sp.machine
  pub place : place_at after sp.machine ≡ place_after (view_of memory seen before) d (place_at before sp.machine)
  pub from : bit_at after.levels sp.from_pin ≡ last_of sp.from_pin (bit_at before.levels sp.from_pin) (two_writes (intent_in memory seen d before sp.machine).level)
  pub to : bit_at after.levels sp.to_pin ≡ last_of sp.to_pin (bit_at before.levels sp.to_pin) (two_writes (intent_in memory seen d before sp.machine).level)

-- the machine at the start of clock c: its divider runs from clock 0 on, and it is at this address with so many ticks of delay
-- left; the watch has the pins' levels, and its ages are exact
pub record IsAt (sp : Span) (s : MachineSetup) (most : ℕ) (marks : ℕ → Mark) (b : BlockState) (c : ℕ) (w : Watch) (address ticks : ℕ) : Type 0 where
  pub m : Slot
  pub slot : place_at b sp.machine ≡ Some m
  pub setup : m.machine.setup ≡ s
  pub enabled : m.enabled ≡ true
  pub running : m.timing ≡ record { clock = c; restarted = 0; period = timing.period_of s.int s.frac }
  pub rest : IsRest m.machine.registers address ticks
  pub from : w.from ≡ is_high b.levels sp.from_pin
  pub to : w.to ≡ is_high b.levels sp.to_pin
  pub exact : AreExact (is_bounded sp) marks most c w.ages

changes_edge : (rise a b : Bool) → changes rise a b ≡ is_edge rise a b
changes_edge true a b = refl
changes_edge false a b = refl

no_edge : (rise a : Bool) → is_edge rise a a ≡ false
no_edge true true = refl
no_edge true false = refl
no_edge false true = refl
no_edge false false = refl

kept_enabled : (enable disable enabled : Bool) → enable ≡ false → disable ≡ false → enabled ≡ true → cond enable true (cond disable false enabled) ≡ true
kept_enabled enable disable enabled h k e = rw (h, k) e

kept_timing : (restart : Bool) (t : Timing) → restart ≡ false → cond restart (timing.resumed t) t ≡ t
kept_timing restart t h = rw h refl

on_clock : (clock period : ℕ) → timing.stepped (record { clock = clock; restarted = 0; period = period }) ≡ record { clock = suc clock; restarted = 0; period = period }
on_clock clock period = ap (λ (k : ℕ). let x : Timing = record { clock = k; restarted = 0; period = period } in x) (add-one clock)

-- the level of a pin
pin_level : AreLevels → (p old new : ℕ) (writes : List (ℕ × ℕ)) (before : Bool) → new ≡ last_of p old writes → before ≡ (old == 1) → level_after p writes before ≡ (new == 1)
pin_level levels p old new writes before e f = ap (level_after p writes) f ∙ (levels p writes old ∙ sym (ap (λ n. n == 1) e))

-- what a clock does to the machine
record IsClock (sp : Span) (s : MachineSetup) (memory : List ℕ) (seen : ℕ) (d : Due) (b a : BlockState) (m : Slot) (act : Registers × Intent) (c : ℕ) : Type 0 where
  act_is : acted (view_of memory seen b) (lined d m) ≡ act
  intent : intent_in memory seen d b sp.machine ≡ act.1
  after : Slot
  slot : place_at a sp.machine ≡ Some after
  setup : after.machine.setup ≡ s
  enabled : after.enabled ≡ true
  running : after.timing ≡ record { clock = suc c; restarted = 0; period = timing.period_of s.int s.frac }
  registers : after.machine.registers ≡ act.0

clocked : (sp : Span) (s : MachineSetup) (memory : List ℕ) (seen : ℕ) (d : Due) (b a : BlockState) (m : Slot) (act : Registers × Intent) (c : ℕ)
    → IsAfter sp memory seen d b a → place_at b sp.machine ≡ Some m → m.machine.setup ≡ s → s.id ≡ sp.machine → m.enabled ≡ true → m.timing ≡ record { clock = c; restarted = 0; period = timing.period_of s.int s.frac }
    → acted (view_of memory seen b) (lined d m) ≡ act → IsClock sp s memory seen d b a m act c
unfolding settled_slot
clocked sp s memory seen d b a m act c h slot setup id enabled running acts = record {
  act_is = acts;
  intent = ap (place_intent (view_of memory seen b) d) slot ∙ ap (λ (x : Registers × Intent). x.1) acts;
  after = slot_after (view_of memory seen b) d m;
  slot = h.place ∙ ap (place_after (view_of memory seen b) d) slot;
  setup = setup;
  enabled = kept_enabled _ _ m.enabled (ap (λ i. slice_index_or d.enable i false) own ∙ h.left.enable) (ap (λ i. slice_index_or d.disable i false) own ∙ h.left.disable) enabled;
  running = ap timing.stepped (kept_timing _ m.timing (ap (λ i. slice_index_or d.restart i false) own ∙ h.left.restart) ∙ running) ∙ on_clock c (timing.period_of s.int s.frac);
  registers = ap (λ (x : Registers × Intent). x.0) acts;
} where
  own : m.machine.setup.id ≡ sp.machine
  own = ap (λ (x : MachineSetup). x.id) setup ∙ id

-- whether it has a tick
ticks_by : (s : MachineSetup) (d : Due) (id c : ℕ) (m : Slot) → IsLeft d id → m.machine.setup.id ≡ id → m.enabled ≡ true → m.timing ≡ record { clock = c; restarted = 0; period = timing.period_of s.int s.frac }
    → has_tick (lined d m) ≡ is_tick 0 (timing.period_of s.int s.frac) c
ticks_by s d id c m h own enabled running =
    ap (λ e. e && is_tick (lined d m).timing.restarted (lined d m).timing.period (lined d m).timing.clock) (kept_enabled _ _ m.enabled (ap (λ i. slice_index_or d.enable i false) own ∙ h.enable) (ap (λ i. slice_index_or d.disable i false) own ∙ h.disable) enabled)
    ∙ ap (λ (t : Timing). is_tick t.restarted t.period t.clock) (kept_timing _ m.timing (ap (λ i. slice_index_or d.restart i false) own ∙ h.restart) ∙ running)

-- a level after a clock, and its edge in the mark
level_of : AreLevels → (p old new : ℕ) (before after : Bool) (wanted : Intent) (i : Intent) → wanted ≡ i → new ≡ last_of p old (two_writes wanted.level) → before ≡ (old == 1)
    → level_after p (two_writes i.level) before ≡ after → after ≡ (new == 1)
level_of levels p old new before after wanted i same e f g =
    sym g ∙ pin_level levels p old new (two_writes i.level) before (e ∙ ap (λ (x : Intent). last_of p old (two_writes x.level)) same) f

-- an event of a span between edges of levels, in a clock and in a tick
event_edge : (watched : Option PinSignal) (at : List ℕ) (address : ℕ) (edge works finishes : Bool) → watched ≡ Some Level → at ≡ [] → is_event watched at address edge works finishes ≡ edge
event_edge watched at address edge works finishes e f = rw (e, f) (whole edge) where
  whole : (x : Bool) → (x && true) ≡ x
  whole true = refl
  whole false = refl

comes_edge : (edge edges finishes ends : Bool) → edges ≡ true → ends ≡ false → comes edge edges finishes ends ≡ edge
comes_edge edge edges finishes ends e f = rw (e, f) (whole edge finishes) where
  whole : (x y : Bool) → ((x && true) || (y && false)) ≡ x
  whole true y = refl
  whole false true = refl
  whole false false = refl

-- its edge
level_edge : (signal : Option PinSignal) (p : ℕ) (rise : Bool) (b a : BlockState) → signal ≡ Some Level → has_signal_edge signal p rise b a ≡ changes rise (is_high b.levels p) (is_high a.levels p)
level_edge signal p rise b a e = ap (λ z. has_signal_edge z p rise b a) e

-- so in a mark
to_event : (sp : Span) (memory : List ℕ) (seen : ℕ) (d : Due) (b a : BlockState) → IsSimple sp → (mark_of sp memory seen d b a).to ≡ changes sp.to_rise (is_high b.levels sp.to_pin) (is_high a.levels sp.to_pin)
unfolding mark_of
to_event sp memory seen d b a simple =
    let tick = intent_in memory seen d b sp.machine in
    let place = place_at b sp.machine in
    event_edge sp.to_signal sp.to_at (pc_at place) (has_signal_edge sp.to_signal sp.to_pin sp.to_rise b a) (works tick.kind (pending_at place)) (finishes (works tick.kind (pending_at place)) tick.stalled) simple.to simple.to_any
    ∙ level_edge sp.to_signal sp.to_pin sp.to_rise b a simple.to

from_event : (sp : Span) (memory : List ℕ) (seen : ℕ) (d : Due) (b a : BlockState) → IsSimple sp → (mark_of sp memory seen d b a).from ≡ changes sp.from_rise (is_high b.levels sp.from_pin) (is_high a.levels sp.from_pin)
unfolding mark_of
from_event sp memory seen d b a simple =
    let tick = intent_in memory seen d b sp.machine in
    let place = place_at b sp.machine in
    event_edge sp.from_signal sp.from_at (pc_at place) (has_signal_edge sp.from_signal sp.from_pin sp.from_rise b a) (works tick.kind (pending_at place)) (finishes (works tick.kind (pending_at place)) tick.stalled) simple.from simple.from_any
    ∙ level_edge sp.from_signal sp.from_pin sp.from_rise b a simple.from

edge_of : (rise before after old new : Bool) → before ≡ old → after ≡ new → changes rise old new ≡ is_edge rise before after
edge_of rise before after old new e f = changes_edge rise old new ∙ rw (e, f) refl

idle_acts : (v : View) (d : Due) (m : Slot) → has_tick (lined d m) ≡ false → acted v (lined d m) ≡ (m.machine.registers, no_intent)
unfolding acted
idle_acts v d m h = rw h refl

tick_acts : (v : View) (d : Due) (m : Slot) → has_tick (lined d m) ≡ true → acted v (lined d m) ≡ tick_of m.machine.setup v (queues_of m.machine.ports.fifos) m.machine.registers
unfolding acted
tick_acts v d m h = rw h refl

own_id : (s : MachineSetup) (m : Slot) (id : ℕ) → m.machine.setup ≡ s → s.id ≡ id → m.machine.setup.id ≡ id
own_id s m id e f = ap (λ (x : MachineSetup). x.id) e ∙ f

-- a clock without a tick
pub idle_clock : AreLevels → (sp : Span) (s : MachineSetup) (most : ℕ) (memory : List ℕ) (seen : ℕ → ℕ) (host : ℕ → Due) (states : ℕ → BlockState) (c : ℕ) (w : Watch) (address ticks : ℕ)
    → IsSimple sp → IsAfter sp memory (seen c) (host c) (states c) (states (suc c)) → s.id ≡ sp.machine → is_tick 0 (timing.period_of s.int s.frac) c ≡ false
    → IsAt sp s most (marks_over sp memory seen host states) (states c) c w address ticks → IsAt sp s most (marks_over sp memory seen host states) (states (suc c)) (suc c) w address ticks
unfolding mark_of
idle_clock levels sp s most memory seen host states c w address ticks simple h id none g = record {
  m = k.after;
  slot = k.slot;
  setup = k.setup;
  enabled = k.enabled;
  running = k.running;
  rest = subst (λ (r : Registers). IsRest r address ticks) (sym k.registers) g.rest;
  from = from;
  to = to;
  exact = exact_idle (is_bounded sp) (marks_over sp memory seen host states) most c w.ages
      (ap (λ (i : Intent). counts i.kind (names sp (pc_at (place_at (states c) sp.machine)))) k.intent)
      (to_event sp memory (seen c) (host c) (states c) (states (suc c)) simple ∙ edge_of sp.to_rise w.to w.to _ _ g.to to ∙ no_edge sp.to_rise w.to) g.exact;
} where
  k : IsClock sp s memory (seen c) (host c) (states c) (states (suc c)) g.m (g.m.machine.registers, no_intent) c
  k = clocked sp s memory (seen c) (host c) (states c) (states (suc c)) g.m _ c h g.slot g.setup id g.enabled g.running
      (idle_acts _ (host c) g.m (ticks_by s (host c) sp.machine c g.m h.left (own_id s g.m sp.machine g.setup id) g.enabled g.running ∙ none))

  from : w.from ≡ is_high (states (suc c)).levels sp.from_pin
  from = level_of levels sp.from_pin _ _ w.from w.from _ no_intent k.intent h.from g.from (no_levels sp.from_pin w.from)

  to : w.to ≡ is_high (states (suc c)).levels sp.to_pin
  to = level_of levels sp.to_pin _ _ w.to w.to _ no_intent k.intent h.to g.to (no_levels sp.to_pin w.to)

-- what a clock with a tick leaves, where it breaks nothing
pub record IsTicked (sp : Span) (s : MachineSetup) (r : Rules) (marks : ℕ → Mark) (b : BlockState) (c : ℕ) (w : Watch) (t : Tick) (address ticks : ℕ) : Type 0 where
  pub at : IsAt sp s r.max marks b c (watched r w t) address ticks
  pub clean : IsClean w.causes → IsClean (watched r w t).causes

-- a clock with a tick
pub tick_clock : AreLevels → (sp : Span) (s : MachineSetup) (r : Rules) (memory : List ℕ) (seen : ℕ → ℕ) (host : ℕ → Due) (states : ℕ → BlockState) (c : ℕ) (w : Watch) (t : Tick) (address ticks next left : ℕ)
    → IsSimple sp → IsFree (marks_over sp memory seen host states) → IsAfter sp memory (seen c) (host c) (states c) (states (suc c)) → s.id ≡ sp.machine → is_tick 0 (timing.period_of s.int s.frac) c ≡ true
    → r.from_rise ≡ sp.from_rise → r.to_rise ≡ sp.to_rise → IsRuled (is_bounded sp) r → t.late ≡ false
    → ((v : View) (q : _) (x : Registers) → v.memory ≡ memory → IsRest x address ticks → IsTick sp t.from t.to next left (tick_of s v q x))
    → IsAt sp s r.max (marks_over sp memory seen host states) (states c) c w address ticks
    → IsBrokenBy (is_bounded sp) r.min r.max (marks_over sp memory seen host states) ⊎ IsTicked sp s r (marks_over sp memory seen host states) (states (suc c)) (suc c) w t next left
unfolding mark_of watched
tick_clock levels sp s r memory seen host states c w t address ticks next left simple free h id some from_rise to_rise ruled prompt acts g =
    elim (exact_tick (is_bounded sp) r (marks_over sp memory seen host states) c w.ages (closes r w t) (opens r w t) ruled free
    (ap (λ (i : Intent). counts i.kind (names sp (pc_at (place_at (states c) sp.machine)))) k.intent ∙ tick.counting _)
    (to_event sp memory (seen c) (host c) (states c) (states (suc c)) simple ∙ edge_of sp.to_rise w.to _ _ _ g.to to ∙ ap (λ z. is_edge z w.to (unwrap_or t.to w.to)) (sym to_rise)
    ∙ sym (comes_edge (is_edge r.to_rise w.to (unwrap_or t.to w.to)) r.to_edges t.finishes r.to_ends ruled.to_edges ruled.to_ends))
    (from_event sp memory (seen c) (host c) (states c) (states (suc c)) simple ∙ edge_of sp.from_rise w.from _ _ _ g.from from ∙ ap (λ z. is_edge z w.from (unwrap_or t.from w.from)) (sym from_rise)
    ∙ sym (comes_edge (is_edge r.from_rise w.from (unwrap_or t.from w.from)) r.from_edges t.finishes r.from_ends ruled.from_edges ruled.from_ends))
    g.exact) [
      | inl broken ↦ inl broken
      | inr well ↦ inr (record {
        at = record {
          m = k.after;
          slot = k.slot;
          setup = k.setup;
          enabled = k.enabled;
          running = k.running;
          rest = subst (λ (x : Registers). IsRest x next left) (sym k.registers) tick.rest;
          from = from;
          to = to;
          exact = rw prompt well.exact;
        };
        clean = λ p. rw prompt (clean_joined _ _ p well.clean);
      })
    ] where
      tick : IsTick sp t.from t.to next left (tick_of s (view_of memory (seen c) (states c)) (queues_of g.m.machine.ports.fifos) g.m.machine.registers)
      tick = acts _ _ _ refl g.rest

      k : IsClock sp s memory (seen c) (host c) (states c) (states (suc c)) g.m (tick_of s (view_of memory (seen c) (states c)) (queues_of g.m.machine.ports.fifos) g.m.machine.registers) c
      k = clocked sp s memory (seen c) (host c) (states c) (states (suc c)) g.m _ c h g.slot g.setup id g.enabled g.running
          (tick_acts _ (host c) g.m (ticks_by s (host c) sp.machine c g.m h.left (own_id s g.m sp.machine g.setup id) g.enabled g.running ∙ some)
          ∙ ap (λ x. tick_of x (view_of memory (seen c) (states c)) (queues_of g.m.machine.ports.fifos) g.m.machine.registers) g.setup)

      from : unwrap_or t.from w.from ≡ is_high (states (suc c)).levels sp.from_pin
      from = level_of levels sp.from_pin _ _ w.from _ _ _ k.intent h.from g.from (tick.from w.from)

      to : unwrap_or t.to w.to ≡ is_high (states (suc c)).levels sp.to_pin
      to = level_of levels sp.to_pin _ _ w.to _ _ _ k.intent h.to g.to (tick.to w.to)
