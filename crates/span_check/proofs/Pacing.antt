-- The clocks of a machine's ticks, from a clock in which the span's from-edge comes to the next line that disables or restarts it.
use Rattle.std.proofs.Common.{◌≡◌, ◌==◌, ℕ, zero, suc, ◌+◌, ◌*◌, ◌/◌, ◌<◌, ◌≤◌, inl, inr, Bool, true, false, ◌&&◌, cond, Option, Some, List, slice_index_or, refl, ap, sym, subst, ◌∙◌, arith, add-one}
use Rattle.std.proofs.lemmas.Bool.{and_parts, or_parts}
use Rattle.std.specs.Int.{bit_at}
use Rattle.clock_divider.specs.Timing.{Timing}
use Rattle.clock_divider.specs.Timing as timing
use Rattle.clock_divider.specs.Ticks.{IsTickClock, is_tick}
use Rattle.pin_matrix.specs.Pins.{last_of}
use Rattle.pin_matrix.specs.Spans.{signal_bits}
use Rattle.pin_matrix.specs.declared.span.PinSignal.{PinSignal}
use Rattle.pin_matrix.specs.declared.span.PinSignal.TheVariants.{Level}
use Rattle.pin_matrix.specs.declared.span.Span.{Span}
use Rattle.sm_registers.specs.declared.intent.Intent.{Intent}
use Rattle.sm_registers.specs.Intents.{no_intent, two_writes}
use Rattle.sm_registers.specs.declared.registers.Registers.{Registers}
use Rattle.sm_registers.specs.View.{View}
use Rattle.sm_registers.specs.State.{queues_of}
use Rattle.sm_registers.specs.Tick.{tick_of}
use Rattle.dreq_pacing.specs.declared.due.Due.{Due}
use Rattle.block_core.specs.Slots.{Slot, enabled_by, timed_by, lined, has_tick, acted, settled_slot, slot_after, place_after, place_intent}
use Rattle.block_core.specs.Block.{BlockState, view_of}
use Rattle.block_core.specs.Following.{place_at, intent_in}
use Rattle.pin_matrix.specs.Pins.{is_high}
use Rattle.block_core.specs.Edges.{changes}
use Rattle.span_ticks.specs.Following.{finishes, works, writes_to}
use Rattle.span_check.specs.Marks.{Mark, mark_of, counts, names, pc_at, pending_at}
use Rattle.span_check.specs.Holding.{counted, IsUnbroken}
use Rattle.span_check.specs.Runs.{marks_over}
use Rattle.span_check.proofs.Counting.{one_if, before_suc, counted-suc, counted-none}
use Rattle.span_check.proofs.Premises.{Laws}
use Rattle.span_check.proofs.Levels.{level-none, changes-is_edge, no-edge, no-event, of-tick}
use Rattle.span_check.proofs.Periods.{IsBetween, between-start, between-tick, between-idle}
use Rattle.span_check.proofs.Steps.{IsAfter}

-- the machine and its divider at the start of a clock
record IsTimed (sp : Span) (period : ℕ) (b : BlockState) (c : ℕ) : Type 0 where
  m : Slot
  slot : place_at b sp.machine ≡ Some m
  id : m.machine.setup.id ≡ sp.machine
  clock : m.timing.clock ≡ c
  period_is : m.timing.period ≡ period

-- a restart leaves the clock and the period
restart-clock : (restarts : Bool) (t : Timing) → (cond restarts (timing.resumed t) t).clock ≡ t.clock
restart-clock true t = refl
restart-clock false t = refl

restart-period : (restarts : Bool) (t : Timing) → (cond restarts (timing.resumed t) t).period ≡ t.period
restart-period true t = refl
restart-period false t = refl

timed_after : (sp : Span) (period : ℕ) (memory : List ℕ) (seen : ℕ) (d : Due) (b a : BlockState) (c : ℕ) → IsAfter sp memory seen d b a → IsTimed sp period b c → IsTimed sp period a (suc c)
unfolding settled_slot
timed_after sp period memory seen d b a c h t =
    let v = view_of memory seen b in
    let restarts : Bool = slice_index_or d.restart t.m.machine.setup.id false in
    record {
      m = slot_after v d t.m;
      slot = h.place ∙ ap (place_after v d) t.slot;
      id = t.id;
      clock = ap (λ n. n + 1) (restart-clock restarts t.m.timing ∙ t.clock) ∙ add-one c;
      period_is = restart-period restarts t.m.timing ∙ t.period_is;
    }

-- without a tick nothing is wanted
idle_intent : (v : View) (d : Due) (m : Slot) → has_tick (lined d m) ≡ false → (acted v (lined d m)).1 ≡ no_intent
unfolding acted
idle_intent v d m h = rw h refl

-- with one the intent is that of a tick
tick_intent : (v : View) (d : Due) (m : Slot) → has_tick (lined d m) ≡ true → acted v (lined d m) ≡ tick_of m.machine.setup v (queues_of m.machine.ports.fifos) m.machine.registers
unfolding acted
tick_intent v d m h = rw h refl

no_change : (rise a b : Bool) → b ≡ a → changes rise a b ≡ false
no_change rise a b e = rw e (changes-is_edge rise a a ∙ no-edge rise a)

-- a span that names no address counts each tick
all_count : (sp : Span) (memory : List ℕ) (seen : ℕ) (d : Due) (b a : BlockState) (m : Slot) → place_at b sp.machine ≡ Some m → ((address : ℕ) → names sp address ≡ false) → (mark_of sp memory seen d b a).counts ≡ has_tick (lined d m)
unfolding mark_of
all_count sp memory seen d b a m slot none = rw (slot, none m.machine.registers.pc) (by (has_tick (lined d m)) refl) where
  by : (t : Bool) → has_tick (lined d m) ≡ t → counts (acted (view_of memory seen b) (lined d m)).1.kind false ≡ has_tick (lined d m)
  by true e =
      let v = view_of memory seen b in
      let tick : counts (tick_of m.machine.setup v (queues_of m.machine.ports.fifos) m.machine.registers).1.kind false ≡ true =
      of-tick Level (λ kind writes. counts kind false ≡ true) (λ w x. refl) (λ w x. refl) (λ w x. refl) m.machine.setup v (queues_of m.machine.ports.fifos) m.machine.registers in
      ap (λ (x : Registers × Intent). counts x.1.kind false) (tick_intent v d m e) ∙ tick ∙ sym e
  by false e = ap (λ (i : Intent). counts i.kind false) (idle_intent (view_of memory seen b) d m e) ∙ sym e

-- the machine has a running divider at the start of clock c: the from-edge came in clock s, at this tick after the restart, and
-- so many ticks after it were counted
pub record IsPaced (sp : Span) (period : ℕ) (marks : ℕ → Mark) (s : ℕ) (b : BlockState) (c : ℕ) : Type 0 where
  pub m : Slot
  pub slot : place_at b sp.machine ≡ Some m
  pub id : m.machine.setup.id ≡ sp.machine
  pub enabled : m.enabled ≡ true
  pub restarted : ℕ
  pub first : ℕ
  pub running : m.timing ≡ record { clock = c; restarted = restarted; period = period }
  pub start : restarted + first * period / 256 ≡ s
  pub between : IsBetween restarted period first (counted marks s c) c

whole_timing : (t : Timing) (clock period : ℕ) → t.clock ≡ clock → t.period ≡ period → t ≡ record { clock = clock; restarted = t.restarted; period = period }
whole_timing t clock period e f = ap (λ (k : ℕ). let x : Timing = record { clock = k; restarted = t.restarted; period = t.period } in x) e ∙ ap (λ (k : ℕ). let x : Timing = record { clock = clock; restarted = t.restarted; period = k } in x) f

-- one clock on
on_clock : (clock restarted period : ℕ) → timing.stepped (record { clock = clock; restarted = restarted; period = period }) ≡ record { clock = suc clock; restarted = restarted; period = period }
on_clock clock restarted period = ap (λ (k : ℕ). let x : Timing = record { clock = k; restarted = restarted; period = period } in x) (add-one clock)

ticks_with : (t : Timing) (clock restarted period : ℕ) → t ≡ record { clock = clock; restarted = restarted; period = period } → is_tick t.restarted t.period t.clock ≡ is_tick restarted period clock
ticks_with t clock restarted period e = ap (λ (x : Timing). is_tick x.restarted x.period x.clock) e

-- without such a line it stays enabled, and its divider isn't restarted
stays_enabled : (enable disable enabled : Bool) → disable ≡ false → enabled ≡ true → cond enable true (cond disable false enabled) ≡ true
stays_enabled true disable enabled e f = refl
stays_enabled false disable enabled e f = rw e f

not_restarted : (restarts : Bool) (t : Timing) → restarts ≡ false → cond restarts (timing.resumed t) t ≡ t
not_restarted restarts t e = rw e refl

-- what a run says of the span's machine, whatever the table
pub record IsRun (sp : Span) (period : ℕ) (memory : List ℕ) (seen : ℕ → ℕ) (host : ℕ → Due) (states : ℕ → BlockState) : Type 0 where
  pub m : Slot
  pub slot : place_at (states 0) sp.machine ≡ Some m
  pub id : m.machine.setup.id ≡ sp.machine
  pub clock : m.timing.clock ≡ 0
  pub period_is : m.timing.period ≡ period
  pub after : (c : ℕ) → IsAfter sp memory (seen c) (host c) (states c) (states (suc c))

-- in a run, for a span that names no address
module _ (laws : Laws) (sp : Span) (period : ℕ) (long : 256 ≤ period) (none : (address : ℕ) → names sp address ≡ false) (memory : List ℕ) (seen : ℕ → ℕ) (host : ℕ → Due) (states : ℕ → BlockState) (r : IsRun sp period memory seen host states) where
  -- a level that nothing is written to stays, and so does a direction
  same_level : (signal : Option PinSignal) (p old new : ℕ) → new ≡ last_of p old (two_writes (writes_to signal no_intent)) → (new == 1) ≡ (old == 1)
  same_level signal p old new e = ap (λ n. n == 1) e ∙ sym (laws.levels p (two_writes (writes_to signal no_intent)) old) ∙ level-none signal p (old == 1)

  -- the from-event comes only in a tick
  event_ticks : (sees : ℕ) (d : Due) (b a : BlockState) (m : Slot) → IsAfter sp memory sees d b a → place_at b sp.machine ≡ Some m → (mark_of sp memory sees d b a).from ≡ true → has_tick (lined d m) ≡ true
  unfolding mark_of
  event_ticks sees d b a m h slot edge = by (has_tick (lined d m)) refl where
    old : ℕ
    old = signal_bits sp.from_signal b.levels b.directions

    new : ℕ
    new = signal_bits sp.from_signal a.levels a.directions

    wanted : Intent
    wanted = intent_in memory sees d b sp.machine

    pending : Option ℕ
    pending = pending_at (place_at b sp.machine)

    intent : has_tick (lined d m) ≡ false → intent_in memory sees d b sp.machine ≡ no_intent
    intent off = ap (place_intent (view_of memory sees b) d) slot ∙ idle_intent (view_of memory sees b) d m off

    unmoved : has_tick (lined d m) ≡ false → changes sp.from_rise (is_high old sp.from_pin) (is_high new sp.from_pin) ≡ false
    unmoved off =
        no_change sp.from_rise (is_high old sp.from_pin) (is_high new sp.from_pin)
        (same_level sp.from_signal sp.from_pin (bit_at old sp.from_pin) (bit_at new sp.from_pin) (h.from ∙ ap (λ (i : Intent). last_of sp.from_pin (bit_at old sp.from_pin) (two_writes (writes_to sp.from_signal i))) (intent off)))

    by : (t : Bool) → has_tick (lined d m) ≡ t → has_tick (lined d m) ≡ true
    by true e = e
    by false e = absurd (never (sym (no-event sp.from_signal sp.from_at (pc_at (place_at b sp.machine)) (changes sp.from_rise (is_high old sp.from_pin) (is_high new sp.from_pin)) (works wanted.kind pending) (finishes (works wanted.kind pending) wanted.stalled) (unmoved e) (ap (λ (i : Intent). finishes (works i.kind pending) i.stalled) (intent e))) ∙ edge)) where
      never : false ≡ true → ⊥
      never f = cc

  timed : (c : ℕ) → IsTimed sp period (states c) c
  timed zero = record { m = r.m; slot = r.slot; id = r.id; clock = r.clock; period_is = r.period_is }
  timed (suc c) = timed_after sp period memory (seen c) (host c) (states c) (states (suc c)) c (r.after c) (timed c)

  paced_start : (s : ℕ) → (marks_over sp memory seen host states s).from ≡ true → IsPaced sp period (marks_over sp memory seen host states) s (states (suc s)) (suc s)
  unfolding settled_slot
  paced_start s edge =
      let t = timed s in
      let d = host s in
      let v = view_of memory (seen s) (states s) in
      let restarts : Bool = slice_index_or d.restart t.m.machine.setup.id false in
      let now : Timing = timed_by d t.m.machine.setup.id t.m.timing in
      let whole : now ≡ record { clock = s; restarted = now.restarted; period = period } =
      whole_timing now s period (restart-clock restarts t.m.timing ∙ t.clock) (restart-period restarts t.m.timing ∙ t.period_is) in
      let tick = and_parts (enabled_by d t.m.machine.setup.id t.m.enabled) (is_tick now.restarted now.period now.clock)
      (event_ticks (seen s) d (states s) (states (suc s)) t.m (r.after s) t.slot edge) in
      let which : IsTickClock now.restarted period s = (laws.tick_test now.restarted period s (omega (arith, long))).0 (sym (ticks_with now s now.restarted period whole) ∙ tick.1) in
      let marks : ℕ → Mark = marks_over sp memory seen host states in
      record {
        m = slot_after v d t.m;
        slot = (r.after s).place ∙ ap (place_after v d) t.slot;
        id = t.id;
        enabled = tick.0;
        restarted = now.restarted;
        first = which.0;
        running = ap timing.stepped whole ∙ on_clock s now.restarted period;
        start = which.1;
        between = subst (λ n. IsBetween now.restarted period which.0 n (suc s)) (sym (counted-none marks s (suc s) (omega arith))) (between-start now.restarted period which.0 s long which.1);
      }

  paced_after : (s c : ℕ) → s < c → (marks_over sp memory seen host states c).breaks ≡ false → IsPaced sp period (marks_over sp memory seen host states) s (states c) c → IsPaced sp period (marks_over sp memory seen host states) s (states (suc c)) (suc c)
  unfolding mark_of settled_slot
  paced_after s c after broken p =
      let d = host c in
      let v = view_of memory (seen c) (states c) in
      let lines = or_parts (slice_index_or d.disable sp.machine false) (slice_index_or d.restart sp.machine false) broken in
      let marks : ℕ → Mark = marks_over sp memory seen host states in
      let enabled : (lined d p.m).enabled ≡ true =
      stays_enabled (slice_index_or d.enable p.m.machine.setup.id false) (slice_index_or d.disable p.m.machine.setup.id false) p.m.enabled (ap (λ id. slice_index_or d.disable id false) p.id ∙ lines.0) p.enabled in
      let running : (lined d p.m).timing ≡ record { clock = c; restarted = p.restarted; period = period } =
      not_restarted (slice_index_or d.restart p.m.machine.setup.id false) p.m.timing (ap (λ id. slice_index_or d.restart id false) p.id ∙ lines.1) ∙ p.running in
      let ticks : has_tick (lined d p.m) ≡ is_tick p.restarted period c =
      ap (λ e. e && is_tick (lined d p.m).timing.restarted (lined d p.m).timing.period (lined d p.m).timing.clock) enabled ∙ ticks_with (lined d p.m).timing c p.restarted period running in
      let more : counted marks s (suc c) ≡ counted marks s c + one_if (is_tick p.restarted period c) =
      counted-suc marks s c after ∙ ap (λ e. counted marks s c + one_if e) (all_count sp memory (seen c) d (states c) (states (suc c)) p.m p.slot none ∙ ticks) in
      record {
        m = slot_after v d p.m;
        slot = (r.after c).place ∙ ap (place_after v d) p.slot;
        id = p.id;
        enabled = enabled;
        restarted = p.restarted;
        first = p.first;
        running = ap timing.stepped running ∙ on_clock c p.restarted period;
        start = p.start;
        between = subst (λ n. IsBetween p.restarted period p.first n (suc c)) (sym more) (by (is_tick p.restarted period c) refl);
      } where
        by : (t : Bool) → is_tick p.restarted period c ≡ t → IsBetween p.restarted period p.first (counted (marks_over sp memory seen host states) s c + one_if (is_tick p.restarted period c)) (suc c)
        by true e =
            let which = (laws.tick_test p.restarted period c (omega (arith, long))).0 e in
            subst (λ t. IsBetween p.restarted period p.first (counted (marks_over sp memory seen host states) s c + one_if t) (suc c)) (sym e) (between-tick p.restarted period p.first _ c which.0 long p.between which.1)
        by false e =
            subst (λ t. IsBetween p.restarted period p.first (counted (marks_over sp memory seen host states) s c + one_if t) (suc c)) (sym e)
            (subst (λ n. IsBetween p.restarted period p.first n (suc c)) (still _) (between-idle p.restarted period p.first _ c p.between (λ j f. never (sym e ∙ (laws.tick_test p.restarted period c (omega (arith, long))).1 (j, f))))) where
              never : false ≡ true → ⊥
              never g = cc

              still : (n : ℕ) → n ≡ n + 0
              still n = omega arith

  -- so it is as long as no such line comes
  pub paced : (s c : ℕ) → s < c → (marks_over sp memory seen host states s).from ≡ true → IsUnbroken (marks_over sp memory seen host states) s c → IsPaced sp period (marks_over sp memory seen host states) s (states c) c
  paced s zero after edge unbroken = absurd (omega (arith, after))
  paced s (suc c) after edge unbroken = elim (before_suc s c after) [
    | inl earlier ↦
        paced_after s c earlier (unbroken c earlier (omega arith))
        (paced s c earlier edge (λ k more less. unbroken k more (omega (arith, less))))
    | inr now ↦ subst (λ k. IsPaced sp period (marks_over sp memory seen host states) s (states (suc k)) (suc k)) now (paced_start s edge)
  ]
