-- A delay, tick by tick, and where an instruction that has finished rests.
use Rattle.std.proofs.Common.{◌≡◌, ℕ, zero, suc, ◌-◌, ◌<◌, ◌⊎◌, Bool, true, false, Option, None, refl, sym, ap, ◌∙◌, inl, inr, subst, arith}
use Rattle.std.proofs.lemmas.Bool.{false≢true}
use Rattle.pin_matrix.specs.Followed as span
use Rattle.pin_matrix.specs.declared.machine.MachineSetup.{MachineSetup}
use Rattle.pin_matrix.specs.declared.setup.Setup.{Setup}
use Rattle.pin_matrix.specs.declared.span.Span.{Span}
use Rattle.sm_registers.specs.declared.registers.Registers.{Registers}
use Rattle.sm_registers.specs.declared.intent.Kind.TheVariants.{Delay}
use Rattle.sm_registers.specs.Queues.{Queues}
use Rattle.sm_registers.specs.Tick.{tick_delay}
use Rattle.span_step.specs.declared.ages.Ages.{Ages}
use Rattle.span_step.specs.declared.stepped.Next.{Next}
use Rattle.span_step.specs.Contexts.{Context}
use Rattle.span_step.specs.Courses.{Rules, closes, watched, followed, delay_tick, delay_ticks}
use Rattle.span_step.specs.Laws.{first_cause}
use Rattle.span_step.specs.Steps.{rules_of}
use Rattle.span_ticks.specs.Rows.{IsInRow}
use Rattle.span_ticks.specs.UnderWay.{Watch, Flow, flow_of, rested, IsAtRow, IsResting}
use Rattle.span_ticks.specs.Following.{IsAged, IsFollowed}
use Rattle.span_ticks.proofs.Clean.{IsClean, clean_of, none_of, clean_followed, met_followed}
use Rattle.span_ticks.proofs.Aging.{no_closes, no_edge, no_opens, tick_ages}
use Rattle.span_ticks.proofs.Narrowing.{Narrow}
use Rattle.span_ticks.proofs.Opened.{flow_delay, delay_levels}

pub rested_none : (s : MachineSetup) (sp : Span) (f : Flow) (w : Watch) → f.delay ≡ 0 → rested s sp f w ≡ w
rested_none s sp f w h = ap (λ d. followed (rules_of s sp f.pc) (delay_ticks d) w) h

delay_step : (r : Rules) (w : Watch) (d : ℕ) → 0 < d → followed r (delay_ticks d) w ≡ followed r (delay_ticks (d - 1)) (watched r w delay_tick)
delay_step r w zero h = absurd (let x : ⊥ = omega arith in x)
delay_step r w (suc d) h = let e : d ≡ suc d - 1 = omega arith in ap (λ n. followed r (delay_ticks n) (watched r w delay_tick)) e

-- the rules of each address say the same of a delay
pub same_rest : (s : MachineSetup) (sp : Span) (a b d : ℕ) (w : Watch) → followed (rules_of s sp a) (delay_ticks d) w ≡ followed (rules_of s sp b) (delay_ticks d) w
unfolding watched rules_of
same_rest s sp a b zero w = refl
same_rest s sp a b (suc d) w = same_rest s sp a b d (watched (rules_of s sp a) w delay_tick) ∙ ap (followed (rules_of s sp b) (delay_ticks d)) same_tick where
  same_tick : watched (rules_of s sp a) w delay_tick ≡ watched (rules_of s sp b) w delay_tick
  same_tick = rw (no_edge sp.to_rise w.to, no_edge sp.from_rise w.from) refl

-- after one tick of a delay
pub delay_clean : (sp : Span) (rows : Context → Option Ages) (s : MachineSetup) (kept : Bool) (r : Registers) (w : Watch) → 0 < r.delay → IsResting sp rows s kept (flow_of r) w
    → IsClean (watched (rules_of s sp r.pc) w delay_tick).causes
delay_clean sp rows s kept r w more h =
    let step = delay_step (rules_of s sp r.pc) w r.delay more in
    let good : first_cause (followed (rules_of s sp r.pc) (delay_ticks (r.delay - 1)) (watched (rules_of s sp r.pc) w delay_tick)).causes ≡ None =
    ap (λ (x : Watch). first_cause x.causes) (sym step) ∙ h.good in
    clean_followed (rules_of s sp r.pc) (delay_ticks (r.delay - 1)) (watched (rules_of s sp r.pc) w delay_tick) (clean_of _ good)

delay_at_row : (sp : Span) (rows : Context → Option Ages) (s : MachineSetup) (r : Registers) (w : Watch) → 0 < r.delay → IsAtRow sp rows s (flow_of r) w
    → IsAtRow sp rows s (record (flow_of r) { delay = r.delay - 1 }) (watched (rules_of s sp r.pc) w delay_tick)
delay_at_row sp rows s r w more h =
    let step = delay_step (rules_of s sp r.pc) w r.delay more in
    record {
      context = h.context;
      agrees = record { placed = h.agrees.placed; address = h.agrees.address; x = h.agrees.x; y = h.agrees.y };
      from = h.from ∙ ap (λ (x : Watch). x.from) step;
      to = h.to ∙ ap (λ (x : Watch). x.to) step;
      row = subst (λ (x : Watch). IsInRow x.ages (rows h.context)) step h.row;
    }

delay_rests : (sp : Span) (rows : Context → Option Ages) (s : MachineSetup) (kept : Bool) (r : Registers) (w : Watch) → 0 < r.delay → IsResting sp rows s kept (flow_of r) w
    → (kept ≡ false → r.delay - 1 ≡ 0 → ⊥) → IsResting sp rows s kept (record (flow_of r) { delay = r.delay - 1 }) (watched (rules_of s sp r.pc) w delay_tick)
delay_rests sp rows s kept r w more h delayed =
    let step = delay_step (rules_of s sp r.pc) w r.delay more in
    record {
      pending = h.pending;
      begun = h.begun;
      good = ap (λ (x : Watch). first_cause x.causes) (sym step) ∙ h.good;
      comes = λ e. delay_at_row sp rows s r w more (h.comes e);
      delayed = delayed;
    }

-- where it isn't as assumed a delay is left
pub still_delayed : (kept : Bool) (d : ℕ) → (kept ≡ true) ⊎ (d ≡ 0 → ⊥) → kept ≡ false → d ≡ 0 → ⊥
still_delayed kept d (inl h) e z = let x : false ≡ true = sym e ∙ h in cc
still_delayed kept d (inr h) e z = h z

-- a tick of a delay has no event
delay_closes : (s : MachineSetup) (sp : Span) (address : ℕ) (w : Watch) → closes (rules_of s sp address) w delay_tick ≡ false
unfolding rules_of
delay_closes s sp address w = rw (no_edge sp.to_rise w.to) refl

pub delay_followed : (u : Setup) (sp : Span) (rows : Context → Option Ages) (s : MachineSetup) (q : Queues) (kept : Bool) (r : Registers) (w : Watch) → 0 < r.delay → IsResting sp rows s kept (flow_of r) w
    → (z : Bool) → IsFollowed u sp rows s kept r.pc z w (tick_delay s q r)
unfolding tick_delay watched
delay_followed u sp rows s q kept r w more h z = record {
  after = watched (rules_of s sp r.pc) w delay_tick;
  under_way = λ stays. inl (subst (λ f. IsResting sp rows s kept f (watched (rules_of s sp r.pc) w delay_tick)) (sym (flow_delay s q r))
      (delay_rests sp rows s kept r w more h (λ e none. still_delayed kept _ stays e (ap (λ (f : Flow). f.delay) (flow_delay s q r) ∙ none))));
  from = delay_levels sp.from_signal sp.from_pin s q r w.from;
  to = delay_levels sp.to_signal sp.to_pin s q r w.to;
  ages = λ free n i. subst (λ z. IsAged s sp r.pc Delay z (watched (rules_of s sp r.pc) w delay_tick) n)
      (delay_closes s sp r.pc w ∙ sym (no_closes sp r.pc (tick_delay s q r).1 w (watched (rules_of s sp r.pc) w delay_tick) refl refl))
      (tick_ages s sp r.pc Delay w delay_tick refl refl (delay_clean sp rows s kept r w more h) n i);
  fresh = λ o. absurd (false≢true (sym (no_opens sp r.pc (tick_delay s q r).1 w (watched (rules_of s sp r.pc) w delay_tick) refl refl) ∙ o));
}

-- where an instruction has finished: at a row, if it left X and Y as assumed, and else in a delay
pub rests_after : (sp : Span) (rows : Context → Option Ages) (s : MachineSetup) (kept : Bool) (address d x y : ℕ) (n : Next) (w : Watch)
    → n.context.from ≡ (followed (rules_of s sp address) (delay_ticks d) w).from → n.context.to ≡ (followed (rules_of s sp address) (delay_ticks d) w).to
    → n.ages ≡ (followed (rules_of s sp address) (delay_ticks d) w).ages → IsClean (followed (rules_of s sp address) (delay_ticks d) w).causes → w.causes.u6 ≡ false
    → (kept ≡ true → Narrow rows (span.followed sp) n x y) → (kept ≡ false → d ≡ 0 → ⊥)
    → IsResting sp rows s kept (record { pc = n.context.address; x = x; y = y; delay = d; pending = None; begun = false }) w
rests_after sp rows s kept address d x y n w from to ages clean met narrow delayed =
    let end : Watch = followed (rules_of s sp address) (delay_ticks d) w in
    let next : ℕ = n.context.address in
    let same : end ≡ followed (rules_of s sp next) (delay_ticks d) w = same_rest s sp address next d w in
    record {
      pending = refl;
      begun = refl;
      good = ap (λ (x : Watch). first_cause x.causes) (sym same) ∙ none_of _ clean (met_followed (rules_of s sp address) (delay_ticks d) w met);
      comes = λ e. let p = narrow e in record {
        context = record n.context { x = p.known_x; y = p.known_y };
        agrees = record { placed = p.at.placed; address = refl; x = p.covers_x; y = p.covers_y };
        from = from ∙ ap (λ (x : Watch). x.from) same;
        to = to ∙ ap (λ (x : Watch). x.to) same;
        row = subst (λ a. IsInRow a (rows (record n.context { x = p.known_x; y = p.known_y }))) (ages ∙ ap (λ (x : Watch). x.ages) same) p.at.row;
      };
      delayed = delayed;
    }
