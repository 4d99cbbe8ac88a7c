-- What holds of two steps of one context, whose ages alone differ, is shown for one tick, and each course keeps it.
use Rattle.std.proofs.Common.{◌≡◌, ℕ, ◌*◌, nat_eq, Bool, true, false, not, ◌&&◌, cond, if◌then◌else◌, Option, List, [], ◌∷◌, ◌++◌, length, map, refl, sym, ap, subst, ◌∙◌, fold}
use Rattle.std.specs.List.{flat_map, list_any}
use Rattle.std.proofs.lemmas.List.Folds.{fold_along}
use Rattle.span_step.specs.declared.ages.Ages.{Ages}
use Rattle.span_step.specs.declared.ages.Ages.TheVariants.{Empty}
use Rattle.span_step.specs.declared.cause.Causes.{Causes}
use Rattle.span_step.specs.declared.course.Tick.{Tick}
use Rattle.span_step.specs.declared.course.Watch.{Watch}
use Rattle.span_step.specs.declared.levels.Write.{Write}
use Rattle.span_step.specs.declared.stepped.Next.{Next}
use Rattle.span_step.specs.declared.stepped.Stepped.{Stepped}
use Rattle.span_step.specs.Contexts.{Context}
use Rattle.span_step.specs.Outcomes.{ContextOutcome, outcomes}
use Rattle.span_step.specs.Courses.{Rules, watched, start, followed, prompt, delayed, courses, delay_ticks, older, with_fresh, after_events, joined, no_causes, tick_causes}
use Rattle.span_step.specs.declared.narrowing.Narrowing.{Narrowing}
use Rattle.span_step.specs.Narrowing.{all_narrowed, is_unmet, is_unmet_at_an_end, kept, knowing, narrowed, narrowing_after, nexts_of, with_held}
use Rattle.span_step.specs.Steps.{Visit, visit_of, rules_of, with_end, end_of, with_outcome, with_unmet, nothing_found, wild_step, step_by, is_lost}
use Rattle.span_step.proofs.Pairs.{length-pairs}
use Rattle.pin_matrix.specs.declared.machine.MachineSetup.{MachineSetup}
use Rattle.pin_matrix.specs.declared.span.Span.{Span}
use Rattle.pio_encode.specs.declared.op.Op.{Op}
use Rattle.span_step.specs.Laws.{AreAlike, GoesLike}

-- the ages after a tick's count
abbrev pub aged : ℕ → Bool → Ages → Ages
aged most late a = if late then a else older most a

-- A relation S of the ages at the start becomes R in the first tick, and each tick keeps R; the causes of each tick are
-- related by C.
pub record Keeps (r : Rules) (S : Ages → Ages → Type 0) (R : Bool → Ages → Ages → Type 0) (C : Causes → Causes → Type 0) : Type 0 where
  pub first : (a b : Ages) → S a b → R true (older r.max a) (older r.max b)
  pub further : (p : Bool) (a b : Ages) → R p a b → R p (older r.max a) (older r.max b)
  pub opened : (p : Bool) (a b : Ages) → R p a b → R p (with_fresh a) (with_fresh b)
  pub ended : R false Empty Empty
  pub told_first : (closes : Bool) (a b : Ages) → S a b → C (tick_causes r false closes a (older r.max a)) (tick_causes r false closes b (older r.max b))
  pub told : (p late closes : Bool) (a b : Ages) → R p a b → C (tick_causes r late closes a (aged r.max late a)) (tick_causes r late closes b (aged r.max late b))
  pub joins : (a b c d : Causes) → C a b → C c d → C (joined a c) (joined b d)
  pub none : C no_causes no_causes
  pub wild : C (record no_causes { u4 = true }) (record no_causes { u4 = true })
  pub unmet : (z : Bool) (a b : Causes) → C a b → C (record a { u6 = z }) (record b { u6 = z })

-- two watches of one course
pub record Alike (R : Bool → Ages → Ages → Type 0) (C : Causes → Causes → Type 0) (w v : Watch) : Type 0 where
  pub from : w.from ≡ v.from
  pub to : w.to ≡ v.to
  pub passes : w.passes ≡ v.passes
  pub from_edge : w.from_edge ≡ v.from_edge
  pub ages : R w.passes w.ages v.ages
  pub causes : C w.causes v.causes

-- two steps of one context
pub record Together (R : Bool → Ages → Ages → Type 0) (C : Causes → Causes → Type 0) (s t : Stepped) : Type 0 where
  pub ends : AreAlike (GoesLike R) s.ends t.ends
  pub narrowing : s.narrowing ≡ t.narrowing
  pub causes : C s.causes t.causes
  pub from_edge : s.from_edge ≡ t.from_edge

pub AreAlike-append : (R : Next → Next → Type 0) (ms ns xs ys : List Next) → AreAlike R ms ns → AreAlike R xs ys → AreAlike R (ms ++ xs) (ns ++ ys)
AreAlike-append R [] [] xs ys h p = p
AreAlike-append R [] (n ∷ ns) xs ys h p = absurd h
AreAlike-append R (m ∷ ms) [] xs ys h p = absurd h
AreAlike-append R (m ∷ ms) (n ∷ ns) xs ys h p = (h.0, AreAlike-append R ms ns xs ys h.1 p)

-- two nexts go alike wherever X and Y are known alike
alike_knowing : (R : Bool → Ages → Ages → Type 0) (m n : Next) (x y : Option ℕ) → GoesLike R m n → GoesLike R (knowing m x y) (knowing n x y)
alike_knowing R m n x y h = record { context = ap (λ (k : Context). record k { x = x; y = y }) h.context; passes = h.passes; ages = h.ages }

alike_map : (R : Bool → Ages → Ages → Type 0) (m n : Next) (x : Option ℕ) (ys : List (Option ℕ)) → GoesLike R m n → AreAlike (GoesLike R) (map (λ y. knowing m x y) ys) (map (λ y. knowing n x y) ys)
alike_map R m n x [] h = tt
alike_map R m n x (y ∷ ys) h = (alike_knowing R m n x y h, alike_map R m n x ys h)

alike_pairs : (R : Bool → Ages → Ages → Type 0) (m n : Next) (xs ys : List (Option ℕ)) → GoesLike R m n → AreAlike (GoesLike R) (flat_map (λ x. map (λ y. knowing m x y) ys) xs) (flat_map (λ x. map (λ y. knowing n x y) ys) xs)
alike_pairs R m n [] ys h = tt
alike_pairs R m n (x ∷ xs) ys h = AreAlike-append (GoesLike R) _ _ _ _ (alike_map R m n x ys h) (alike_pairs R m n xs ys h)

alike_narrowed : (R : Bool → Ages → Ages → Type 0) (w : Narrowing) (m n : Next) → GoesLike R m n → AreAlike (GoesLike R) (narrowed w m) (narrowed w n)
unfolding narrowed
alike_narrowed R w m n h =
    subst (λ (k : Context). AreAlike (GoesLike R) (flat_map (λ x. map (λ y. knowing m x y) (kept w.y m.context.y)) (kept w.x m.context.x)) (flat_map (λ x. map (λ y. knowing n x y) (kept w.y k.y)) (kept w.x k.x)))
    h.context (alike_pairs R m n (kept w.x m.context.x) (kept w.y m.context.y) h)

alike_all : (R : Bool → Ages → Ages → Type 0) (w : Narrowing) (ms ns : List Next) → AreAlike (GoesLike R) ms ns → AreAlike (GoesLike R) (all_narrowed w ms) (all_narrowed w ns)
alike_all R w [] [] h = tt
alike_all R w [] (n ∷ ns) h = absurd h
alike_all R w (m ∷ ms) [] h = absurd h
alike_all R w (m ∷ ms) (n ∷ ns) h = AreAlike-append (GoesLike R) (narrowed w m) (narrowed w n) _ _ (alike_narrowed R w m n h.0) (alike_all R w ms ns h.1)

-- what comes next goes alike where the ends do
pub nexts_alike : (R : Bool → Ages → Ages → Type 0) (C : Causes → Causes → Type 0) (s t : Stepped) → Together R C s t → AreAlike (GoesLike R) (nexts_of s) (nexts_of t)
unfolding nexts_of
nexts_alike R C s t h = subst (λ w. AreAlike (GoesLike R) (all_narrowed s.narrowing s.ends) (all_narrowed w t.ends)) h.narrowing (alike_all R s.narrowing s.ends t.ends h.ends)

unmet_alike : (w : Narrowing) (m n : Next) → m.context ≡ n.context → is_unmet w m ≡ is_unmet w n
unfolding narrowed
unmet_alike w m n h = ap (λ k. nat_eq k 0)
    (length-pairs (λ x y. knowing m x y) (kept w.x m.context.x) (kept w.y m.context.y)
    ∙ ap (λ (k : Context). length (kept w.x k.x) * length (kept w.y k.y)) h
    ∙ sym (length-pairs (λ x y. knowing n x y) (kept w.x n.context.x) (kept w.y n.context.y)))

unmet_ends : (R : Bool → Ages → Ages → Type 0) (w : Narrowing) (ms ns : List Next) → AreAlike (GoesLike R) ms ns → list_any (λ n. is_unmet w n) ms ≡ list_any (λ n. is_unmet w n) ns
unmet_ends R w [] [] h = refl
unmet_ends R w [] (n ∷ ns) h = absurd h
unmet_ends R w (m ∷ ms) [] h = absurd h
unmet_ends R w (m ∷ ms) (n ∷ ns) h = rw (unmet_alike w m n h.0.context, unmet_ends R w ms ns h.1) refl

-- and both are unmet or neither
unmet_both : (R : Bool → Ages → Ages → Type 0) (C : Causes → Causes → Type 0) (s t : Stepped) → Together R C s t → is_unmet_at_an_end s ≡ is_unmet_at_an_end t
unmet_both R C s t h = unmet_ends R s.narrowing s.ends t.ends h.ends ∙ ap (λ w. list_any (λ n. is_unmet w n) t.ends) h.narrowing

module _ (r : Rules) (S : Ages → Ages → Type 0) (R : Bool → Ages → Ages → Type 0) (C : Causes → Causes → Type 0) (k : Keeps r S R C) where
  -- the tick's events keep it
  pub edges : (p closes opens : Bool) (a b : Ages) → R p a b → R (p && not closes) (after_events closes opens a) (after_events closes opens b)
  edges true true true a b h = k.opened false Empty Empty k.ended
  edges true true false a b h = k.ended
  edges true false true a b h = k.opened true a b h
  edges true false false a b h = h
  edges false true true a b h = k.opened false Empty Empty k.ended
  edges false true false a b h = k.ended
  edges false false true a b h = k.opened false a b h
  edges false false false a b h = h

  pub counted : (p late : Bool) (a b : Ages) → R p a b → R p (aged r.max late a) (aged r.max late b)
  counted p true a b h = h
  counted p false a b h = k.further p a b h

  pub chosen : (e : Bool) (a b c d : Causes) → C a b → C c d → C (if e then a else c) (if e then b else d)
  chosen true a b c d h l = h
  chosen false a b c d h l = l

  -- each tick keeps it
  pub Alike-watched : (w v : Watch) (t : Tick) → Alike R C w v → Alike R C (watched r w t) (watched r v t)
  unfolding watched
  Alike-watched w v t h = rw (← h.from, ← h.to, ← h.passes, ← h.from_edge) (record {
    from = refl;
    to = refl;
    passes = refl;
    from_edge = refl;
    ages = edges w.passes _ _ _ _ (counted w.passes t.late w.ages v.ages h.ages);
    causes = chosen (t.late && r.excuses) _ _ _ _ h.causes (k.joins _ _ _ _ h.causes (k.told w.passes t.late _ w.ages v.ages h.ages));
  })

  -- the first tick makes it
  pub Alike-first : (l : Bool) (c : Context) (e : Bool) (f g : Option Bool) (a b : Ages) → S a b → Alike R C (watched r (start l c a) (record { late = false; finishes = e; from = f; to = g })) (watched r (start l c b) (record { late = false; finishes = e; from = f; to = g }))
  unfolding watched
  Alike-first true c e f g a b h = record {
    from = refl;
    to = refl;
    passes = refl;
    from_edge = refl;
    ages = edges false _ _ Empty Empty k.ended;
    causes = k.joins _ _ _ _ k.none (k.told false false _ Empty Empty k.ended);
  }
  Alike-first false c e f g a b h = record {
    from = refl;
    to = refl;
    passes = refl;
    from_edge = refl;
    ages = edges true _ _ _ _ (k.first a b h);
    causes = k.joins _ _ _ _ k.none (k.told_first _ a b h);
  }

  -- so do the courses
  pub Alike-prompt : (l : Bool) (c : Context) (side : Write) (o : ContextOutcome) (d : ℕ) (a b : Ages) → S a b → Alike R C (followed r (prompt side o d) (start l c a)) (followed r (prompt side o d) (start l c b))
  unfolding prompt
  Alike-prompt l c side o d a b h =
      fold_along (watched r) (watched r) (Alike R C) Alike-watched _ _ (delay_ticks d) (Alike-first l c _ _ _ a b h)

  pub Alike-delayed : (l : Bool) (c : Context) (side : Write) (o : ContextOutcome) (d : ℕ) (a b : Ages) → S a b → Alike R C (followed r (delayed side o d) (start l c a)) (followed r (delayed side o d) (start l c b))
  unfolding delayed
  Alike-delayed l c side o d a b h =
      fold_along (watched r) (watched r) (Alike R C) Alike-watched _ _ (delay_ticks d) (Alike-watched _ _ _ (Alike-first l c _ _ _ a b h))

  -- one more end
  pub Together-with_end : (v : Visit) (a b : Ages) (o : ContextOutcome) (s t : Stepped) (x y : Watch) → Together R C s t → Alike R C x y → Together R C (with_end (record v { ages = a }) o s x) (with_end (record v { ages = b }) o t y)
  unfolding with_end
  Together-with_end v a b o s t x y h l = record {
    ends = AreAlike-append (GoesLike R) s.ends t.ends _ _ h.ends (record { context = rw (l.from, l.to) refl; passes = l.passes; ages = l.ages }, tt);
    narrowing = h.narrowing;
    causes = k.joins _ _ _ _ h.causes l.causes;
    from_edge = rw (h.from_edge, l.from_edge) refl;
  }

  -- one more outcome, with what is known at the end of its courses
  pub Together-courses : (stalls : Bool) (v : Visit) (a b : Ages) (p o : ContextOutcome) (s t : Stepped) → v.rules ≡ r → S a b → Together R C s t →
      Together R C (fold (λ u ticks. with_end (record v { ages = a }) p u (end_of (record v { ages = a }) ticks)) s (courses stalls v.side o v.delay)) (fold (λ u ticks. with_end (record v { ages = b }) p u (end_of (record v { ages = b }) ticks)) t (courses stalls v.side o v.delay))
  unfolding courses with_end
  Together-courses true v a b p o s t e h l = rw e (Together-with_end v a b p _ _ _ _ (Together-with_end v a b p s t _ _ l (Alike-prompt v.left_out v.context v.side o v.delay a b h)) (Alike-delayed v.left_out v.context v.side o v.delay a b h))
  Together-courses false v a b p o s t e h l = rw e (Together-with_end v a b p s t _ _ l (Alike-prompt v.left_out v.context v.side o v.delay a b h))

  pub Together-with_outcome : (v : Visit) (a b : Ages) → v.rules ≡ r → S a b → (s t : Stepped) (o : ContextOutcome) → Together R C s t → Together R C (with_outcome (record v { ages = a }) s o) (with_outcome (record v { ages = b }) t o)
  unfolding with_outcome
  Together-with_outcome v a b e h s t o l =
      subst (λ w. Together R C (with_outcome (record v { ages = a }) s o) (fold (λ u ticks. with_end (record v { ages = b }) (with_held w o) u (end_of (record v { ages = b }) ticks)) t (courses v.stalls v.side o v.delay)))
      l.narrowing (Together-courses v.stalls v a b (with_held s.narrowing o) o s t e h l)

  -- what is found at last
  pub Together-with_unmet : (s t : Stepped) → Together R C s t → Together R C (with_unmet s) (with_unmet t)
  Together-with_unmet s t h = rw (← unmet_both R C s t h) (record { ends = h.ends; narrowing = h.narrowing; causes = k.unmet _ _ _ h.causes; from_edge = h.from_edge })

-- what a tick keeps holds of two steps of one row
pub Together-step_by : (s : MachineSetup) (sp : Span) (op : Op) (c : Context) (S : Ages → Ages → Type 0) (R : Bool → Ages → Ages → Type 0) (C : Causes → Causes → Type 0) (a b : Ages) →
    Keeps (rules_of s sp c.address) S R C → S a b → Together R C (step_by s sp op c a) (step_by s sp op c b)
unfolding step_by visit_of
Together-step_by s sp op c S R C a b k h =
    let v : Visit = visit_of s sp op c a in
    let w = narrowing_after sp c.address in
    let none : Together R C (nothing_found w) (nothing_found w) = record { ends = tt; narrowing = refl; causes = k.none; from_edge = refl } in
    let wild : Together R C (wild_step w) (wild_step w) = record { ends = tt; narrowing = refl; causes = k.wild; from_edge = refl } in
    elim (is_lost s op) as (λ z. Together R C (cond z (wild_step w) (with_unmet (fold (with_outcome (visit_of s sp op c a)) (nothing_found w) (outcomes op.act s sp c)))) (cond z (wild_step w) (with_unmet (fold (with_outcome (visit_of s sp op c b)) (nothing_found w) (outcomes op.act s sp c))))) [
      | true ↦ wild
      | false ↦ Together-with_unmet (rules_of s sp c.address) S R C k _ _ (fold_along (with_outcome (visit_of s sp op c a)) (with_outcome (visit_of s sp op c b)) (Together R C) (λ x y o. Together-with_outcome (rules_of s sp c.address) S R C k v a b refl h x y o) _ _ (outcomes op.act s sp c) none)
    ]
