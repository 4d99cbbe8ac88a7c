-- From visit to visit in a run: each is bad for no cause, or the span is broken.
use Rattle.std.proofs.Common.{◌≡◌, ◌==◌, ℕ, zero, suc, ◌+◌, ◌*◌, ◌≤◌, ◌⊎◌, Bool, true, false, cond, Option, Some, None, is_some, List, inl, inr, refl, sym, subst, ◌∙◌, arith, add-zero}
use Rattle.std.specs.Option.{option_map}
use Rattle.std.proofs.lemmas.Bool.Decides.{nat_tests}
use Rattle.clock_divider.specs.Timing as timing
use Rattle.clock_divider.specs.Ticks.{is_tick}
use Rattle.pio_encode.specs.declared.op.Op.{Op}
use Rattle.pin_matrix.specs.declared.machine.MachineSetup.{MachineSetup}
use Rattle.pin_matrix.specs.declared.setup.Setup.{Setup}
use Rattle.pin_matrix.specs.declared.span.Span.{Span}
use Rattle.pin_matrix.specs.declared.span.SpanUnit.{SpanUnit}
use Rattle.pin_matrix.specs.declared.span.SpanUnit.TheVariants.{Ticks, Clocks}
use Rattle.sm_registers.specs.declared.registers.Registers.{Registers}
use Rattle.sm_registers.specs.View.{View}
use Rattle.sm_registers.specs.Tick.{tick_of}
use Rattle.dreq_pacing.specs.declared.due.Due.{Due}
use Rattle.block_core.specs.Block.{BlockState}
use Rattle.span_step.specs.declared.cause.Cause.{Cause}
use Rattle.span_step.specs.declared.cause.Cause.TheVariants.{U1, U2}
use Rattle.span_step.specs.Outcomes.{ContextOutcome}
use Rattle.span_step.specs.Courses.{Rules, delay_tick, delay_ticks, prompt, over, start, watched, followed, no_causes}
use Rattle.span_step.specs.Steps.{bounds_in, bounds_of, is_bounded, least_ticks, most_or, most_ticks, period_of, rules_of, next_address, side_of, address_after}
use Rattle.span_check.specs.Marks.{Mark}
use Rattle.span_check.specs.Runs.{marks_over}
use Rattle.span_refuted.specs.OneWay.{instruction_at, IsSimple}
use Rattle.span_refuted.specs.Visits.{visit, cause_at, HasBadVisit}
use Rattle.span_refuted.proofs.Single.{Watch, Tick, IsSingle, end, course}
use Rattle.span_refuted.proofs.Joining.{IsClean, but_met, clean_joined, clean_none}
use Rattle.span_refuted.proofs.Visiting.{next_visit}
use Rattle.span_refuted.proofs.Registers.{IsRest, IsTick, first_tick, delay_tick as delay_acts}
use Rattle.span_refuted.proofs.Exact.{IsFree, IsBrokenBy, IsRuled}
use Rattle.span_refuted.proofs.Clocks.{IsTested, tick_comes}
use Rattle.span_refuted.proofs.Clock.{AreLevels, IsAfter, IsAt, idle_clock, tick_clock}

-- a run of a setup in which nothing disables or restarts the span's machine, and no other machine writes its pins
pub record IsRun (sp : Span) (s : MachineSetup) (memory : List ℕ) (seen : ℕ → ℕ) (host : ℕ → Due) (states : ℕ → BlockState) : Type 0 where
  pub after : (c : ℕ) → IsAfter sp memory (seen c) (host c) (states c) (states (suc c))
  pub id : s.id ≡ sp.machine

-- the machine comes to this point in some clock
pub record IsReached (sp : Span) (s : MachineSetup) (most : ℕ) (marks : ℕ → Mark) (states : ℕ → BlockState) (w : Watch) (address ticks : ℕ) : Type 0 where
  pub clock : ℕ
  pub at : IsAt sp s most marks (states clock) clock w address ticks

-- the same, in a clock with a tick
record IsDue (sp : Span) (s : MachineSetup) (most : ℕ) (marks : ℕ → Mark) (states : ℕ → BlockState) (w : Watch) (address ticks : ℕ) : Type 0 where
  clock : ℕ
  tick : is_tick 0 (timing.period_of s.int s.frac) clock ≡ true
  at : IsAt sp s most marks (states clock) clock w address ticks

-- and without cause
pub record IsPassed (sp : Span) (s : MachineSetup) (most : ℕ) (marks : ℕ → Mark) (states : ℕ → BlockState) (w : Watch) (address ticks : ℕ) : Type 0 where
  pub there : IsReached sp s most marks states w address ticks
  pub clean : IsClean w.causes

long_period : (s : MachineSetup) → 256 ≤ timing.period_of s.int s.frac
long_period s = on (s.int == 0) refl where
  on : (z : Bool) → (s.int == 0) ≡ z → 256 ≤ 256 * cond z 65536 s.int + s.frac
  on true e = omega arith
  on false e = let some : 1 ≤ s.int = grind (arith, nat_tests) in omega arith

module _ (levels : AreLevels) (tested : IsTested) (sp : Span) (s : MachineSetup) (memory : List ℕ) (seen : ℕ → ℕ) (host : ℕ → Due) (states : ℕ → BlockState) (simple : IsSimple sp) (free : IsFree (marks_over sp memory seen host states)) (run : IsRun sp s memory seen host states) where
  wait : (most d c : ℕ) (w : Watch) (address ticks : ℕ) → is_tick 0 (timing.period_of s.int s.frac) (c + d) ≡ true → IsAt sp s most (marks_over sp memory seen host states) (states c) c w address ticks
      → IsDue sp s most (marks_over sp memory seen host states) states w address ticks
  wait most zero c w address ticks e g = record { clock = c; tick = subst (λ n. is_tick 0 (timing.period_of s.int s.frac) n ≡ true) (add-zero c) e; at = g }
  wait most (suc d) c w address ticks e g =
      waited (is_tick 0 (timing.period_of s.int s.frac) c) refl (λ none. wait most d (suc c) w address ticks (subst (λ n. is_tick 0 (timing.period_of s.int s.frac) n ≡ true) (next c d) e)
      (idle_clock levels sp s most memory seen host states c w address ticks simple (run.after c) run.id none g)) where
        next : (n d : ℕ) → n + suc d ≡ suc n + d
        next n d = omega arith

        waited : (z : Bool) → is_tick 0 (timing.period_of s.int s.frac) c ≡ z → (is_tick 0 (timing.period_of s.int s.frac) c ≡ false → IsDue sp s most (marks_over sp memory seen host states) states w address ticks)
            → IsDue sp s most (marks_over sp memory seen host states) states w address ticks
        waited true q later = record { clock = c; tick = q; at = g }
        waited false q later = later q

  -- the next tick
  one_tick : (r : Rules) (w : Watch) (t : Tick) (address ticks next left : ℕ) → r.from_rise ≡ sp.from_rise → r.to_rise ≡ sp.to_rise → IsRuled (is_bounded sp) r → t.late ≡ false
      → ((v : View) (q : _) (x : Registers) → v.memory ≡ memory → IsRest x address ticks → IsTick sp t.from t.to next left (tick_of s v q x))
      → IsPassed sp s r.max (marks_over sp memory seen host states) states w address ticks
      → IsBrokenBy (is_bounded sp) r.min r.max (marks_over sp memory seen host states) ⊎ IsPassed sp s r.max (marks_over sp memory seen host states) states (watched r w t) next left
  one_tick r w t address ticks next left from_rise to_rise ruled prompt acts p =
      let comes = tick_comes tested (timing.period_of s.int s.frac) p.there.clock (long_period s) in
      let due = wait r.max comes.0 p.there.clock w address ticks comes.1 p.there.at in
      elim (tick_clock levels sp s r memory seen host states due.clock w t address ticks next left simple free (run.after due.clock) run.id due.tick from_rise to_rise ruled prompt acts due.at) [
        | inl broken ↦ inl broken
        | inr ticked ↦ inr (record { there = record { clock = suc due.clock; at = ticked.at }; clean = ticked.clean p.clean })
      ]

  -- the ticks of a delay
  delays : (r : Rules) (n : ℕ) (w : Watch) (address : ℕ) → r.from_rise ≡ sp.from_rise → r.to_rise ≡ sp.to_rise → IsRuled (is_bounded sp) r
      → IsPassed sp s r.max (marks_over sp memory seen host states) states w address n
      → IsBrokenBy (is_bounded sp) r.min r.max (marks_over sp memory seen host states) ⊎ IsPassed sp s r.max (marks_over sp memory seen host states) states (followed r (delay_ticks n) w) address 0
  delays r zero w address from_rise to_rise ruled p = inr p
  delays r (suc n) w address from_rise to_rise ruled p = elim (one_tick r w delay_tick address (suc n) address n from_rise to_rise ruled refl (λ v q x memory h. delay_acts s sp v q x address n h) p) [
    | inl broken ↦ inl broken
    | inr passed ↦ delays r n (watched r w delay_tick) address from_rise to_rise ruled passed
  ]

  -- the whole course of an instruction with one way
  passes : (r : Rules) (op : Op) (w : Watch) (o : ContextOutcome) (address next : ℕ) → r.from_rise ≡ sp.from_rise → r.to_rise ≡ sp.to_rise → IsRuled (is_bounded sp) r
      → ((v : View) (q : _) (x : Registers) → v.memory ≡ memory → IsRest x address 0
      → IsTick sp (over (side_of s sp op.side).from o.from) (over (side_of s sp op.side).to o.to) next op.delay (tick_of s v q x))
      → IsPassed sp s r.max (marks_over sp memory seen host states) states w address 0
      → IsBrokenBy (is_bounded sp) r.min r.max (marks_over sp memory seen host states) ⊎ IsPassed sp s r.max (marks_over sp memory seen host states) states (followed r (course s sp op o) w) next 0
  unfolding prompt
  passes r op w o address next from_rise to_rise ruled acts p = elim (one_tick r w (record { late = false; finishes = true; from = over (side_of s sp op.side).from o.from; to = over (side_of s sp op.side).to o.to }) address 0 next op.delay from_rise to_rise ruled refl acts p) [
    | inl broken ↦ inl broken
    | inr passed ↦ delays r op.delay _ next from_rise to_rise ruled passed
  ]

-- the same point, by what its watch knows
rewatched : (sp : Span) (s : MachineSetup) (most : ℕ) (marks : ℕ → Mark) (states : ℕ → BlockState) (w x : Watch) (address ticks : ℕ) → x.from ≡ w.from → x.to ≡ w.to → x.ages ≡ w.ages
    → IsReached sp s most marks states w address ticks → IsReached sp s most marks states x address ticks
rewatched sp s most marks states w x address ticks e f g h = record {
  clock = h.clock;
  at = record {
    m = h.at.m;
    slot = h.at.slot;
    setup = h.at.setup;
    enabled = h.at.enabled;
    running = h.at.running;
    rest = h.at.rest;
    from = e ∙ h.at.from;
    to = f ∙ h.at.to;
    exact = rw g h.at.exact;
  };
}

-- the machine comes to a visit
abbrev pub IsAtVisit : Setup → Span → MachineSetup → (ℕ → Mark) → (ℕ → BlockState) → ℕ → Type 0
IsAtVisit u sp s marks states i = IsReached sp s (bounds_of sp s).1 marks states (start false (visit u sp i).0 (visit u sp i).1) (visit u sp i).0.address 0

clean_start : IsClean no_causes
clean_start = record { u1 = refl; u2 = refl; u3 = refl; u4 = refl }

clean_ended : (u : Setup) (sp : Span) (s : MachineSetup) (i : ℕ) → (h : IsSingle u sp s (visit u sp i).0) → IsClean (end s sp (instruction_at u s (visit u sp i).0.address) h.outcome (visit u sp i).0 (visit u sp i).1).causes → cause_at u sp i ≡ None
clean_ended u sp s i h c = rw (h.step (visit u sp i).1) (clean_none _ (but_met _ (clean_joined no_causes _ clean_start c)) refl)

stops_at : (least : ℕ) (max : Option ℕ) → is_some max ≡ false → least ≤ most_or least max + 1
stops_at least None e = omega arith
stops_at least (Some most) e = cc

stops_in : (unit : SpanUnit) (sp : Span) (period : ℕ) → is_bounded sp ≡ false → (bounds_in unit sp period).0 ≤ (bounds_in unit sp period).1 + 1
stops_in Ticks sp period e = stops_at sp.min sp.max e
stops_in Clocks sp period e = stops_at (least_ticks sp.min period) (option_map (most_ticks period) sp.max) (mapped sp.max e) where
  mapped : (max : Option ℕ) → is_some max ≡ false → is_some (option_map (most_ticks period) max) ≡ false
  mapped None e = refl
  mapped (Some most) e = cc

ruled_by : (sp : Span) (s : MachineSetup) (address : ℕ) → IsSimple sp → IsRuled (is_bounded sp) (rules_of s sp address)
unfolding rules_of bounds_of
ruled_by sp s address simple = record {
  same = refl;
  from_edges = rw (simple.from, simple.from_any) refl;
  from_ends = rw simple.from refl;
  to_edges = rw (simple.to, simple.to_any) refl;
  to_ends = rw simple.to refl;
  stops = λ e. stops_in sp.unit sp (period_of s) e;
}

-- a visit, in a run of its setup
pub visit_passes : AreLevels → IsTested → (u : Setup) (sp : Span) (s : MachineSetup) (seen : ℕ → ℕ) (host : ℕ → Due) (states : ℕ → BlockState) (i : ℕ) → IsSimple sp → IsFree (marks_over sp u.memory seen host states) → IsRun sp s u.memory seen host states → IsSingle u sp s (visit u sp i).0
    → IsAtVisit u sp s (marks_over sp u.memory seen host states) states i
    → IsBrokenBy (is_bounded sp) (bounds_of sp s).0 (bounds_of sp s).1 (marks_over sp u.memory seen host states) ⊎ (IsAtVisit u sp s (marks_over sp u.memory seen host states) states (suc i) × (cause_at u sp i ≡ None))
unfolding rules_of
visit_passes levels tested u sp s seen host states i simple free run h there =
    elim (passes levels tested sp s u.memory seen host states simple free run (rules_of s sp (visit u sp i).0.address) (instruction_at u s (visit u sp i).0.address) (start false (visit u sp i).0 (visit u sp i).1) h.outcome
    (visit u sp i).0.address (address_after h.outcome.jump (next_address s (visit u sp i).0.address)) refl refl (ruled_by sp s (visit u sp i).0.address simple)
    (λ v q x memory r. first_tick u s sp (visit u sp i).0 v q x (visit u sp i).0.address h.outcome simple memory r h.settled h.quick h.only)
    (record { there = there; clean = clean_start })) [
      | inl broken ↦ inl broken
      | inr passed ↦ inr (
        subst (λ v. IsReached sp s (bounds_of sp s).1 (marks_over sp u.memory seen host states) states (start false v.0 v.1) v.0.address 0) (sym (next_visit u sp s i h))
            (rewatched sp s (bounds_of sp s).1 (marks_over sp u.memory seen host states) states _ _ _ 0 refl refl refl passed.there),
        clean_ended u sp s i h passed.clean,
      )
    ]

-- so each visit is come to, or the span is broken
walk : AreLevels → IsTested → (u : Setup) (sp : Span) (s : MachineSetup) (seen : ℕ → ℕ) (host : ℕ → Due) (states : ℕ → BlockState) → IsSimple sp → IsFree (marks_over sp u.memory seen host states) → IsRun sp s u.memory seen host states → ((i : ℕ) → IsSingle u sp s (visit u sp i).0)
    → IsAtVisit u sp s (marks_over sp u.memory seen host states) states 0 → (i : ℕ)
    → IsBrokenBy (is_bounded sp) (bounds_of sp s).0 (bounds_of sp s).1 (marks_over sp u.memory seen host states) ⊎ IsAtVisit u sp s (marks_over sp u.memory seen host states) states i
walk levels tested u sp s seen host states simple free run single begins zero = inr begins
walk levels tested u sp s seen host states simple free run single begins (suc i) = elim (walk levels tested u sp s seen host states simple free run single begins i) [
  | inl broken ↦ inl broken
  | inr there ↦ elim (visit_passes levels tested u sp s seen host states i simple free run (single i) there) [ inl broken ↦ inl broken | inr passed ↦ inr passed.0 ]
]

never_both : {P : Type 0} (c : Option Cause) (a b : Cause) → (c ≡ Some a) ⊎ (c ≡ Some b) → c ≡ None → P
never_both {P = P} c a b h e = elim h [ inl p ↦ none a (sym p ∙ e) | inr q ↦ none b (sym q ∙ e) ] where
  none : (x : Cause) → Some x ≡ None → P
  none x f = cc

pub bad_visit_breaks : AreLevels → IsTested → (u : Setup) (sp : Span) (s : MachineSetup) (seen : ℕ → ℕ) (host : ℕ → Due) (states : ℕ → BlockState) → IsSimple sp → IsFree (marks_over sp u.memory seen host states) → IsRun sp s u.memory seen host states → ((i : ℕ) → IsSingle u sp s (visit u sp i).0)
    → IsAtVisit u sp s (marks_over sp u.memory seen host states) states 0 → HasBadVisit u sp
    → IsBrokenBy (is_bounded sp) (bounds_of sp s).0 (bounds_of sp s).1 (marks_over sp u.memory seen host states)
bad_visit_breaks levels tested u sp s seen host states simple free run single begins b = elim (walk levels tested u sp s seen host states simple free run single begins b.number) [
  | inl broken ↦ broken
  | inr there ↦ elim (visit_passes levels tested u sp s seen host states b.number simple free run (single b.number) there) [
    | inl broken ↦ broken
    | inr passed ↦ never_both (cause_at u sp b.number) U1 U2 b.first.cause passed.1
  ]
]
