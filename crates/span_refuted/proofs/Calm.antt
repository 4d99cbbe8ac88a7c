-- A prompt course of an instruction with one way is bad for no other cause than U1 and U2.
use Rattle.std.proofs.Common.{◌≡◌, ℕ, zero, suc, ◌⊎◌, Bool, true, false, Some, None, inl, inr, refl}
use Rattle.std.proofs.lemmas.Bool.{or_from}
use Rattle.pio_encode.specs.declared.op.Op.{Op}
use Rattle.pin_matrix.specs.declared.machine.MachineSetup.{MachineSetup}
use Rattle.pin_matrix.specs.declared.setup.Setup.{Setup}
use Rattle.pin_matrix.specs.declared.span.Span.{Span}
use Rattle.span_step.specs.declared.ages.Ages.{Ages}
use Rattle.span_step.specs.declared.cause.Cause.{Cause}
use Rattle.span_step.specs.declared.cause.Cause.TheVariants.{U1, U2}
use Rattle.span_step.specs.declared.cause.Causes.{Causes}
use Rattle.span_step.specs.Contexts.{Context}
use Rattle.span_step.specs.Outcomes.{ContextOutcome}
use Rattle.span_step.specs.Courses.{Rules, watched, followed, start, delay_ticks, prompt}
use Rattle.span_step.specs.Laws.{first_cause}
use Rattle.span_step.specs.Steps.{context_steps, rules_of}
use Rattle.span_refuted.specs.OneWay.{instruction_at}
use Rattle.span_refuted.proofs.Single.{Watch, Tick, IsSingle, end, met}

-- no late tick at an unnamed address came, and an address is known
pub record IsCalm (c : Causes) : Type 0 where
  pub u3 : c.u3 ≡ false
  pub u4 : c.u4 ≡ false

calm_tick : (r : Rules) (t : Tick) (w : Watch) → t.late ≡ false → IsCalm w.causes → IsCalm (watched r w t).causes
unfolding watched
calm_tick r t w l h = record { u3 = rw l (or_from _ _ h.u3 refl); u4 = rw l (or_from _ _ h.u4 refl) }

calm_delay : (r : Rules) (n : ℕ) (w : Watch) → IsCalm w.causes → IsCalm (followed r (delay_ticks n) w).causes
calm_delay r zero w h = h
calm_delay r (suc n) w h = calm_delay r n _ (calm_tick r _ w refl h)

calm_end : (s : MachineSetup) (sp : Span) (op : Op) (o : ContextOutcome) (k : Context) (a : Ages) → IsCalm (end s sp op o k a).causes
unfolding prompt
calm_end s sp op o k a = calm_delay (rules_of s sp k.address) op.delay _ (calm_tick (rules_of s sp k.address) _ (start false k a) refl (record { u3 = refl; u4 = refl }))

some_of : (a b c d e : Bool) (x : Cause) → c ≡ false → d ≡ false → e ≡ false → first_cause (record { u1 = a; u2 = b; u3 = c; u4 = d; u6 = e }) ≡ Some x
    → (first_cause (record { u1 = a; u2 = b; u3 = c; u4 = d; u6 = e }) ≡ Some U1) ⊎ (first_cause (record { u1 = a; u2 = b; u3 = c; u4 = d; u6 = e }) ≡ Some U2)
some_of true b c d e x h k l q = inl refl
some_of false true c d e x h k l q = inr refl
some_of false false c d e x h k l q = absurd (bad (rw (h, k, l) at q)) where
  bad : None ≡ Some x → ⊥
  bad q = cc

-- the first cause of such a step is U1 or U2
pub calm_cause : (u : Setup) (sp : Span) (s : MachineSetup) (k : Context) (a : Ages) (x : Cause) → IsSingle u sp s k → first_cause (context_steps u sp k a).causes ≡ Some x
    → (first_cause (context_steps u sp k a).causes ≡ Some U1) ⊎ (first_cause (context_steps u sp k a).causes ≡ Some U2)
calm_cause u sp s k a x h e = some_of _ _ _ _ _ x calm.u3 calm.u4 (met h a) e where
  calm : IsCalm (context_steps u sp k a).causes
  calm = rw (h.step a) (let c = calm_end s sp (instruction_at u s k.address) h.outcome k a in record { u3 = c.u3; u4 = c.u4 })
