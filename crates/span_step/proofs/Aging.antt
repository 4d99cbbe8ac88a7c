-- How old the ages of a step are: one tick older along a passage, and never above one more than the most that is right.
use Rattle.std.proofs.Common.{◌≡◌, ℕ, ◌+◌, min, Bool, true, Option, Some, None, List, [], ◌∷◌, refl, arith}
use Rattle.std.proofs.lemmas.Bool.{false≢true}
use Rattle.pin_matrix.specs.declared.machine.MachineSetup.{MachineSetup}
use Rattle.pin_matrix.specs.declared.setup.Setup.{Setup}
use Rattle.pin_matrix.specs.declared.span.Span.{Span}
use Rattle.span_step.specs.declared.ages.Ages.{Ages}
use Rattle.span_step.specs.declared.ages.Ages.TheVariants.{Empty, Between}
use Rattle.span_step.specs.declared.stepped.Next.{Next}
use Rattle.span_step.specs.Contexts.{Context}
use Rattle.span_step.specs.Courses.{Rules, older, with_fresh}
use Rattle.span_step.specs.Narrowing.{nexts_of}
use Rattle.span_step.specs.Steps.{machine_steps, context_steps, rules_of}
use Rattle.span_step.specs.Laws.{AreAlike, GoesLike, AreUpTo, ReachesAge, most_of, most_on, AllUpTo, AllReach}
use Rattle.span_step.proofs.Kept.{Keeps, Together-step_by, nexts_alike}
use Rattle.span_step.proofs.Alike.{AnyCauses, AnyAges}

abbrev UpTo : ℕ → Bool → Ages → Ages → Type 0
UpTo n p a b = AreUpTo n a

up_to_older : (m : ℕ) (a : Ages) → AreUpTo (m + 1) (older m a)
up_to_older m Empty = tt
up_to_older m (Between lo hi) = (omega arith, omega arith)

up_to_fresh : (m : ℕ) (a : Ages) → AreUpTo (m + 1) a → AreUpTo (m + 1) (with_fresh a)
up_to_fresh m Empty h = (omega arith, omega arith)
up_to_fresh m (Between lo hi) h = (omega arith, h.1)

Keeps-up_to : (r : Rules) → Keeps r AnyAges (UpTo (r.max + 1)) AnyCauses
Keeps-up_to r = record {
  first = λ a b h. up_to_older r.max a;
  further = λ p a b h. up_to_older r.max a;
  opened = λ p a b h. up_to_fresh r.max a h;
  ended = tt;
  told_first = λ closes a b h. tt;
  told = λ p late closes a b h. tt;
  joins = λ a b c d h k. tt;
  none = tt;
  wild = tt;
  unmet = λ z a b h. tt;
}

abbrev Starts : ℕ → Ages → Ages → Type 0
Starts n a b = ReachesAge n a

abbrev Reaches : ℕ → Bool → Ages → Ages → Type 0
Reaches n p a b = p ≡ true → ReachesAge n a

reaches_older : (n m : ℕ) (a : Ages) → ReachesAge n a → ReachesAge (min n m + 1) (older m a)
reaches_older n m Empty h = absurd h
reaches_older n m (Between lo hi) h = omega arith

reaches_still : (n m : ℕ) (a : Ages) → ReachesAge (min n m + 1) a → ReachesAge (min n m + 1) (older m a)
reaches_still n m Empty h = absurd h
reaches_still n m (Between lo hi) h = omega arith

reaches_fresh : (n : ℕ) (a : Ages) → ReachesAge n a → ReachesAge n (with_fresh a)
reaches_fresh n Empty h = absurd h
reaches_fresh n (Between lo hi) h = h

Keeps-reaches : (r : Rules) (n : ℕ) → Keeps r (Starts n) (Reaches (min n r.max + 1)) AnyCauses
Keeps-reaches r n = record {
  first = λ a b h e. reaches_older n r.max a h;
  further = λ p a b h e. reaches_still n r.max a (h e);
  opened = λ p a b h e. reaches_fresh _ a (h e);
  ended = λ e. absurd (false≢true e);
  told_first = λ closes a b h. tt;
  told = λ p late closes a b h. tt;
  joins = λ a b c d h k. tt;
  none = tt;
  wild = tt;
  unmet = λ z a b h. tt;
}

up_to_each : (n : ℕ) (ms ns : List Next) → AreAlike (GoesLike (UpTo n)) ms ns → AllUpTo n ms
up_to_each n [] ns h = tt
up_to_each n (m ∷ ms) [] h = absurd h
up_to_each n (m ∷ ms) (x ∷ xs) h = (h.0.ages, up_to_each n ms xs h.1)

reaches_each : (n : ℕ) (ms ns : List Next) → AreAlike (GoesLike (Reaches n)) ms ns → AllReach n ms
reaches_each n [] ns h = tt
reaches_each n (m ∷ ms) [] h = absurd h
reaches_each n (m ∷ ms) (x ∷ xs) h = (h.0.ages, reaches_each n ms xs h.1)

max_of : (s : MachineSetup) (sp : Span) (address : ℕ) → (rules_of s sp address).max ≡ most_on (Some s) sp
unfolding rules_of
max_of s sp address = refl

pub AllUpTo-context_steps : (u : Setup) (sp : Span) (k : Context) (a : Ages) → AllUpTo (most_of u sp + 1) (nexts_of (context_steps u sp k a))
unfolding context_steps most_of nexts_of
AllUpTo-context_steps u sp k a = on _ where
  on : (m : Option MachineSetup) → AllUpTo (most_on m sp + 1) (nexts_of (machine_steps m u.memory sp k a))
  on None = tt
  on (Some s) = rw (← max_of s sp k.address) (up_to_each _ _ _ (nexts_alike _ AnyCauses _ _ (Together-step_by s sp _ k AnyAges (UpTo ((rules_of s sp k.address).max + 1)) AnyCauses a a (Keeps-up_to _) tt)))

pub AllReach-context_steps : (u : Setup) (sp : Span) (k : Context) (a : Ages) (n : ℕ) → ReachesAge n a → AllReach (min n (most_of u sp) + 1) (nexts_of (context_steps u sp k a))
unfolding context_steps most_of nexts_of
AllReach-context_steps u sp k a n h = on _ where
  on : (m : Option MachineSetup) → AllReach (min n (most_on m sp) + 1) (nexts_of (machine_steps m u.memory sp k a))
  on None = tt
  on (Some s) = rw (← max_of s sp k.address) (reaches_each _ _ _ (nexts_alike _ AnyCauses _ _ (Together-step_by s sp _ k (Starts n) (Reaches (min n (rules_of s sp k.address).max + 1)) AnyCauses a a (Keeps-reaches _ n) h)))
