-- A step is monotone in its ages.
use Rattle.std.proofs.Common.{◌≡◌, ℕ, ◌≤◌, Bool, true, false, not, ◌&&◌, ◌||◌, nat_lt, Option, Some, None, List, refl, arith}
use Rattle.std.proofs.lemmas.Bool.Decides.{nat_tests}
use Rattle.pin_matrix.specs.declared.machine.MachineSetup.{MachineSetup}
use Rattle.pin_matrix.specs.declared.setup.Setup.{Setup}
use Rattle.pin_matrix.specs.declared.span.Span.{Span}
use Rattle.span_step.specs.declared.ages.Ages.{Ages}
use Rattle.span_step.specs.declared.ages.Ages.TheVariants.{Empty, Between}
use Rattle.span_step.specs.declared.stepped.Stepped.{Stepped}
use Rattle.span_step.specs.Contexts.{Context, IsInside, is_open}
use Rattle.span_step.specs.Courses.{Rules, older, with_fresh, is_above, is_below, tick_causes}
use Rattle.span_step.specs.Steps.{machine_steps, context_steps}
use Rattle.span_step.specs.Laws.{AreInside, AllImplied, IsNarrower}
use Rattle.span_step.proofs.Kept.{Keeps, aged, Together, Together-step_by, nexts_alike}

older_inside : (m : ℕ) (a b : Ages) → IsInside a b → IsInside (older m a) (older m b)
older_inside m Empty b h = tt
older_inside m (Between lo hi) Empty h = absurd h
older_inside m (Between lo hi) (Between low high) h = (omega arith, omega arith)

fresh_inside : (a b : Ages) → IsInside a b → IsInside (with_fresh a) (with_fresh b)
fresh_inside Empty Empty h = (omega arith, omega arith)
fresh_inside Empty (Between low high) h = (omega arith, omega arith)
fresh_inside (Between lo hi) Empty h = absurd h
fresh_inside (Between lo hi) (Between low high) h = (omega arith, omega arith)

above_more : (m hi high : ℕ) → hi ≤ high → nat_lt m hi ≡ true → nat_lt m high ≡ true
above_more m hi high h e = grind (arith, nat_tests)

below_more : (m lo low : ℕ) → low ≤ lo → nat_lt lo m ≡ true → nat_lt low m ≡ true
below_more m lo low h e = grind (arith, nat_tests)

above_inside : (m : ℕ) (a b : Ages) → IsInside a b → is_above m a ≡ true → is_above m b ≡ true
above_inside m Empty b h e = cc
above_inside m (Between lo hi) Empty h e = absurd h
above_inside m (Between lo hi) (Between low high) h e = above_more m hi high h.1 e

below_inside : (m : ℕ) (a b : Ages) → IsInside a b → is_below m a ≡ true → is_below m b ≡ true
below_inside m Empty b h e = cc
below_inside m (Between lo hi) Empty h e = absurd h
below_inside m (Between lo hi) (Between low high) h e = below_more m lo low h.0 e

-- ages inside others that are inside third ones
pub inside_trans : (a b c : Ages) → IsInside a b → IsInside b c → IsInside a c
inside_trans Empty b c h k = tt
inside_trans (Between lo hi) Empty c h k = absurd h
inside_trans (Between lo hi) (Between low high) Empty h k = absurd k
inside_trans (Between lo hi) (Between low high) (Between least most) h k = (omega arith, omega arith)

pub open_inside : (a b : Ages) → IsInside a b → is_open a ≡ true → is_open b ≡ true
open_inside Empty b h e = cc
open_inside (Between lo hi) Empty h e = absurd h
open_inside (Between lo hi) (Between low high) h e = refl

and_more : (c x y : Bool) → (x ≡ true → y ≡ true) → (c && x) ≡ true → (c && y) ≡ true
and_more true x y h e = h e
and_more false x y h e = e

or_more : (a b c d : Bool) → (a ≡ true → b ≡ true) → (c ≡ true → d ≡ true) → (a || c) ≡ true → (b || d) ≡ true
or_more true b c d h k e = rw (h refl) refl
or_more false true c d h k e = refl
or_more false false c d h k e = k e

told_inside : (r : Rules) (late closes : Bool) (a b c d : Ages) → IsInside a b → IsInside c d → AllImplied (tick_causes r late closes a c) (tick_causes r late closes b d)
told_inside r late closes a b c d h k = record {
  u1 = and_more r.bounded _ _ (above_inside r.max c d k);
  u2 = and_more closes _ _ (below_inside r.min c d k);
  u3 = and_more late _ _ (and_more r.bounded _ _ (and_more (not r.named) _ _ (open_inside a b h)));
  u4 = λ e. e;
  u6 = λ e. e;
}

aged_inside : (m : ℕ) (late : Bool) (a b : Ages) → IsInside a b → IsInside (aged m late a) (aged m late b)
aged_inside m true a b h = h
aged_inside m false a b h = older_inside m a b h

Keeps-inside : (r : Rules) → Keeps r IsInside AreInside AllImplied
Keeps-inside r = record {
  first = older_inside r.max;
  further = λ p a b. older_inside r.max a b;
  opened = λ p a b. fresh_inside a b;
  ended = tt;
  told_first = λ closes a b h. told_inside r false closes a b _ _ h (older_inside r.max a b h);
  told = λ p late closes a b h. told_inside r late closes a b _ _ h (aged_inside r.max late a b h);
  joins = λ a b c d h k. record {
    u1 = or_more _ _ _ _ h.u1 k.u1;
    u2 = or_more _ _ _ _ h.u2 k.u2;
    u3 = or_more _ _ _ _ h.u3 k.u3;
    u4 = or_more _ _ _ _ h.u4 k.u4;
    u6 = or_more _ _ _ _ h.u6 k.u6;
  };
  none = record { u1 = λ e. e; u2 = λ e. e; u3 = λ e. e; u4 = λ e. e; u6 = λ e. e };
  wild = record { u1 = λ e. e; u2 = λ e. e; u3 = λ e. e; u4 = λ e. e; u6 = λ e. e };
  unmet = λ z a b h. record { u1 = h.u1; u2 = h.u2; u3 = h.u3; u4 = h.u4; u6 = λ e. e };
}

within : (s t : Stepped) → Together AreInside AllImplied s t → IsNarrower s t
within s t h = record { nexts = nexts_alike AreInside AllImplied s t h; causes = h.causes; from_edge = h.from_edge }

on_machine : (m : Option MachineSetup) (memory : List ℕ) (sp : Span) (k : Context) (a b : Ages) → IsInside a b → IsNarrower (machine_steps m memory sp k a) (machine_steps m memory sp k b)
on_machine None memory sp k a b h = within _ _ (record { ends = tt; narrowing = refl; causes = record { u1 = λ e. e; u2 = λ e. e; u3 = λ e. e; u4 = λ e. e; u6 = λ e. e }; from_edge = refl })
on_machine (Some s) memory sp k a b h =
    within _ _ (Together-step_by s sp _ k IsInside AreInside AllImplied a b (Keeps-inside _) h)

pub IsNarrower-context_steps : (u : Setup) (sp : Span) (k : Context) (a b : Ages) → IsInside a b → IsNarrower (context_steps u sp k a) (context_steps u sp k b)
unfolding context_steps
IsNarrower-context_steps u sp k a b h = on_machine _ u.memory sp k a b h
