-- The step of an instruction with one way has one next, at the end of its prompt course.
use Rattle.std.proofs.Common.{◌≡◌, ◌==◌, ℕ, Bool, true, false, not, ◌&&◌, ◌||◌, Some, None, List, [], ◌∷◌, is_some, slice_index_or, refl, ap, ◌∙◌}
use Rattle.std.proofs.lemmas.Bool.{or_from}
use Rattle.std.specs.List.{list_any}
use Rattle.pio_encode.specs.declared.op.Op.{Op}
use Rattle.pin_matrix.specs.Followed.{followed}
use Rattle.pin_matrix.specs.declared.assume.Assumption.{Assumption}
use Rattle.pin_matrix.specs.declared.machine.MachineSetup.{MachineSetup}
use Rattle.pin_matrix.specs.declared.setup.Setup.{Setup}
use Rattle.pin_matrix.specs.declared.span.Span.{Span}
use Rattle.span_step.specs.declared.ages.Ages.{Ages}
use Rattle.span_step.specs.declared.ages.Ages.TheVariants.{Empty}
use Rattle.span_step.specs.declared.narrowing.Narrowing.{Narrowing}
use Rattle.span_step.specs.declared.stepped.Next.{Next}
use Rattle.span_step.specs.declared.stepped.Stepped.{Stepped}
use Rattle.span_step.specs.Contexts.{Context}
use Rattle.span_step.specs.Outcomes.{ContextOutcome, outcomes, may_stall}
use Rattle.span_step.specs.Courses.{prompt, courses, delay_tick, no_causes, joined, start}
use Rattle.span_step.specs.Courses as courses_of
use Rattle.span_step.specs.Narrowing.{assumed_at, followed_to, narrowed, narrowing_after, nexts_of, with_assumptions}
use Rattle.span_step.specs.Steps.{address_after, next_address, side_of, rules_of, is_left_out, visit_of, with_end, with_outcome, is_lost, step_by, context_steps}
use Rattle.span_refuted.specs.OneWay.{is_settled, has_one_way, instruction_at, goes_to, IsSimple}
use Rattle.span_refuted.proofs.Sole.{HasOutcome, settled_outcome, settled_tame}

-- the types of a watch and of a tick, which their crate gives no name to others
abbrev pub ValueOf : {A B : Type 0} → (A → B) → Type 0
ValueOf {A} {B} f = B

abbrev pub TypeOf : {A : Type 0} → A → Type 0
TypeOf {A} a = A

abbrev pub Watch : Type 0
Watch = ValueOf (λ (k : Context). start false k Empty)

abbrev pub Tick : Type 0
Tick = TypeOf delay_tick

-- after a row of a span that assumes nothing X and Y are known as far as they are followed
abbrev pub unassumed : Span → Narrowing
unassumed sp = record { follow = followed sp; x = None; y = None }

-- where its course ends
abbrev pub landed_at : Span → ℕ → ContextOutcome → Watch → Next
landed_at sp following o w = record {
  context = record { address = address_after o.jump following; x = followed_to (followed sp).x o.x; y = followed_to (followed sp).y o.y; from = w.from; to = w.to };
  ages = w.ages;
  passes = w.passes;
}

-- what a step with one course finds
abbrev pub ended : Span → ℕ → ContextOutcome → Watch → Stepped
ended sp following o w = record {
  ends = landed_at sp following o w ∷ [];
  narrowing = unassumed sp;
  causes = record (joined no_causes w.causes) { u6 = false };
  from_edge = false || w.from_edge;
  closes = false || w.closes;
}

-- the prompt course of an instruction
abbrev pub course : MachineSetup → Span → Op → ContextOutcome → List Tick
course s sp op o = prompt (side_of s sp op.side) o op.delay

-- what is known at its end
abbrev pub end : MachineSetup → Span → Op → ContextOutcome → Context → Ages → Watch
end s sp op o k a = courses_of.followed (rules_of s sp k.address) (course s sp op o) (start false k a)

-- a span that assumes nothing narrows nothing
narrows_nothing : (sp : Span) (address : ℕ) → sp.assume ≡ [] → narrowing_after sp address ≡ unassumed sp
unfolding narrowing_after with_assumptions
narrows_nothing sp address h = ap (λ (items : List Assumption). record { follow = followed sp; x = (assumed_at items address).0; y = (assumed_at items address).1 }) h

step_ended : (s : MachineSetup) (sp : Span) (op : Op) (k : Context) (a : Ages) → is_left_out sp k.address ≡ false → sp.assume ≡ [] → s.pending ≡ None → is_settled op.act ≡ true → may_stall op.act s ≡ false
    → (h : HasOutcome op.act s sp k) → step_by s sp op k a ≡ ended sp (next_address s k.address) h.outcome (end s sp op h.outcome k a)
unfolding step_by visit_of with_outcome with_end courses narrowed
step_ended s sp op k a kept assumes begins settled quick h = rw (goes_on, narrows_nothing sp k.address assumes, h.only, quick, kept) refl where
  goes_on : is_lost s op ≡ false
  goes_on = or_from _ _ (settled_tame op.act settled) (ap is_some begins)

-- so what comes next is the end
one_next : (sp : Span) (following : ℕ) (o : ContextOutcome) (w : Watch) → nexts_of (ended sp following o w) ≡ landed_at sp following o w ∷ []
unfolding nexts_of narrowed
one_next sp following o w = refl

two : (a b : Bool) → (a && not b) ≡ true → (a ≡ true) × (b ≡ false)
two true false h = (refl, refl)
two true true h = absurd (bad h) where
  bad : false ≡ true → ⊥
  bad e = cc
two false b h = absurd (bad h) where
  bad : false ≡ true → ⊥
  bad e = cc

-- the step from a context at an instruction with one way: what it is for any ages
pub record IsSingle (u : Setup) (sp : Span) (s : MachineSetup) (k : Context) : Type 0 where
  pub outcome : ContextOutcome
  pub settled : is_settled (instruction_at u s k.address).act ≡ true
  pub quick : may_stall (instruction_at u s k.address).act s ≡ false
  pub only : outcomes (instruction_at u s k.address).act s sp k ≡ outcome ∷ []
  pub goes : address_after outcome.jump (next_address s k.address) ≡ goes_to (instruction_at u s k.address).act (next_address s k.address)
  pub step : (a : Ages) → context_steps u sp k a ≡ ended sp (next_address s k.address) outcome (end s sp (instruction_at u s k.address) outcome k a)

-- what comes next, and that something does
pub nexts : {u : Setup} {sp : Span} {s : MachineSetup} {k : Context} → (h : IsSingle u sp s k) → (a : Ages)
    → nexts_of (context_steps u sp k a) ≡ landed_at sp (next_address s k.address) h.outcome (end s sp (instruction_at u s k.address) h.outcome k a) ∷ []
nexts {u} {sp} {s} {k} h a = ap nexts_of (h.step a) ∙ one_next sp (next_address s k.address) h.outcome (end s sp (instruction_at u s k.address) h.outcome k a)

pub met : {u : Setup} {sp : Span} {s : MachineSetup} {k : Context} → IsSingle u sp s k → (a : Ages) → (context_steps u sp k a).causes.u6 ≡ false
met h a = ap (λ (x : Stepped). x.causes.u6) (h.step a)

pub single : (u : Setup) (sp : Span) (s : MachineSetup) (k : Context) → IsSimple sp → slice_index_or u.machines sp.machine None ≡ Some s → s.pending ≡ None
    → has_one_way (instruction_at u s k.address).act s ≡ true → IsSingle u sp s k
unfolding context_steps
single u sp s k simple e begins h =
    let t = two _ (may_stall (instruction_at u s k.address).act s) h in
    let o = settled_outcome (instruction_at u s k.address).act s sp k simple t.0 in
    record {
      outcome = o.outcome;
      settled = t.0;
      quick = t.1;
      only = o.only;
      goes = o.goes (next_address s k.address);
      step = λ a. rw e (step_ended s sp (instruction_at u s k.address) k a (ap (list_any (λ a. a == k.address)) simple.plain.leaves) simple.plain.assumes begins t.0 t.1 o);
    }
