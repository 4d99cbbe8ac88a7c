-- What of a step doesn't depend on the ages.
use Rattle.std.proofs.Common.{◌≡◌, ℕ, Bool, true, Option, Some, None, List, [], ◌∷◌, map, refl, sym, ap, ◌∙◌}
use Rattle.std.proofs.lemmas.Bool.{true≢false}
use Rattle.pin_matrix.specs.declared.machine.MachineSetup.{MachineSetup}
use Rattle.pin_matrix.specs.declared.setup.Setup.{Setup}
use Rattle.pin_matrix.specs.declared.span.Span.{Span}
use Rattle.span_step.specs.declared.ages.Ages.{Ages}
use Rattle.span_step.specs.declared.ages.Ages.TheVariants.{Empty, Between}
use Rattle.span_step.specs.declared.cause.Causes.{Causes}
use Rattle.span_step.specs.declared.stepped.Next.{Next}
use Rattle.span_step.specs.Contexts.{Context, is_open}
use Rattle.span_step.specs.Courses.{Rules, older, with_fresh}
use Rattle.span_step.specs.Narrowing.{nexts_of}
use Rattle.span_step.specs.Steps.{machine_steps, context_steps}
use Rattle.span_step.specs.Laws.{aim_of, AreAlike, GoesLike, OpenAlike, SameAfterEdge}
use Rattle.span_step.proofs.Kept.{Keeps, Together, Together-step_by, nexts_alike}

-- nothing is said of the causes
abbrev pub AnyCauses : Causes → Causes → Type 0
AnyCauses a b = Unit {0}

open_older : (m : ℕ) (a : Ages) → is_open (older m a) ≡ is_open a
open_older m Empty = refl
open_older m (Between lo hi) = refl

open_fresh : (a : Ages) → is_open (with_fresh a) ≡ true
open_fresh Empty = refl
open_fresh (Between lo hi) = refl

abbrev BothOpen : Ages → Ages → Type 0
BothOpen a b = is_open a ≡ is_open b

older_alike : (m : ℕ) (a b : Ages) → is_open a ≡ is_open b → is_open (older m a) ≡ is_open (older m b)
older_alike m a b h = open_older m a ∙ (h ∙ sym (open_older m b))

Keeps-open : (r : Rules) → Keeps r BothOpen OpenAlike AnyCauses
Keeps-open r = record {
  first = older_alike r.max;
  further = λ p a b. older_alike r.max a b;
  opened = λ p a b h. open_fresh a ∙ sym (open_fresh b);
  ended = refl;
  told_first = λ closes a b h. tt;
  told = λ p late closes a b h. tt;
  joins = λ a b c d h k. tt;
  none = tt;
  wild = tt;
  unmet = λ z a b h. tt;
}

-- any two ages
abbrev pub AnyAges : Ages → Ages → Type 0
AnyAges a b = Unit {0}

Keeps-edge : (r : Rules) → Keeps r AnyAges SameAfterEdge AnyCauses
Keeps-edge r = record {
  first = λ a b h e. absurd (true≢false e);
  further = λ p a b h e. ap (older r.max) (h e);
  opened = λ p a b h e. ap with_fresh (h e);
  ended = λ e. refl;
  told_first = λ closes a b h. tt;
  told = λ p late closes a b h. tt;
  joins = λ a b c d h k. tt;
  none = tt;
  wild = tt;
  unmet = λ z a b h. tt;
}

-- what each rule's ticks keep holds of two steps in a setup
pub Together-context_steps : (u : Setup) (sp : Span) (k : Context) (S : Ages → Ages → Type 0) (R : Bool → Ages → Ages → Type 0) (a b : Ages) →
    ((r : Rules) → Keeps r S R AnyCauses) → S a b → Together R AnyCauses (context_steps u sp k a) (context_steps u sp k b)
unfolding context_steps
Together-context_steps u sp k S R a b keeps h = on _ where
  on : (m : Option MachineSetup) → Together R AnyCauses (machine_steps m u.memory sp k a) (machine_steps m u.memory sp k b)
  on None = record { ends = tt; narrowing = refl; causes = tt; from_edge = refl }
  on (Some s) = Together-step_by s sp _ k S R AnyCauses a b (keeps _) h

pub OpenAlike-context_steps : (u : Setup) (sp : Span) (k : Context) (a b : Ages) → is_open a ≡ is_open b → AreAlike (GoesLike OpenAlike) (nexts_of (context_steps u sp k a)) (nexts_of (context_steps u sp k b))
OpenAlike-context_steps u sp k a b h = nexts_alike OpenAlike AnyCauses _ _ (Together-context_steps u sp k BothOpen OpenAlike a b Keeps-open h)

pub SameAfterEdge-context_steps : (u : Setup) (sp : Span) (k : Context) (a b : Ages) → AreAlike (GoesLike SameAfterEdge) (nexts_of (context_steps u sp k a)) (nexts_of (context_steps u sp k b))
SameAfterEdge-context_steps u sp k a b = nexts_alike SameAfterEdge AnyCauses _ _ (Together-context_steps u sp k AnyAges SameAfterEdge a b Keeps-edge tt)

pub from_edge_alike : (u : Setup) (sp : Span) (k : Context) (a b : Ages) → (context_steps u sp k a).from_edge ≡ (context_steps u sp k b).from_edge
from_edge_alike u sp k a b = (Together-context_steps u sp k AnyAges SameAfterEdge a b Keeps-edge tt).from_edge

same_contexts : (ms ns : List Next) → AreAlike (GoesLike SameAfterEdge) ms ns → map aim_of ms ≡ map aim_of ns
same_contexts [] [] h = refl
same_contexts [] (n ∷ ns) h = absurd h
same_contexts (m ∷ ms) [] h = absurd h
same_contexts (m ∷ ms) (n ∷ ns) h = rw (h.0.context, h.0.passes, same_contexts ms ns h.1) refl

pub contexts_alike : (u : Setup) (sp : Span) (k : Context) (a b : Ages) → map aim_of (nexts_of (context_steps u sp k a)) ≡ map aim_of (nexts_of (context_steps u sp k b))
contexts_alike u sp k a b = same_contexts _ _ (SameAfterEdge-context_steps u sp k a b)
