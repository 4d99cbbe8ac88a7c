-- A row that is left out steps as if no ages were there, and passes nothing on.
use Rattle.std.proofs.Common.{◌≡◌, ℕ, Bool, true, false, cond, Option, Some, None, List, [], ◌∷◌, ◌++◌, map, fold, refl, ap}
use Rattle.std.specs.List.{flat_map}
use Rattle.std.proofs.lemmas.List.Folds.{fold_along}
use Rattle.pin_matrix.specs.declared.machine.MachineSetup.{MachineSetup}
use Rattle.pin_matrix.specs.declared.setup.Setup.{Setup}
use Rattle.pin_matrix.specs.declared.span.Span.{Span}
use Rattle.pio_encode.specs.declared.op.Op.{Op}
use Rattle.span_step.specs.declared.ages.Ages.{Ages}
use Rattle.span_step.specs.declared.ages.Ages.TheVariants.{Empty}
use Rattle.span_step.specs.declared.course.Tick.{Tick}
use Rattle.span_step.specs.declared.course.Watch.{Watch}
use Rattle.span_step.specs.declared.stepped.Next.{Next}
use Rattle.span_step.specs.declared.stepped.Stepped.{Stepped}
use Rattle.span_step.specs.Contexts.{Context}
use Rattle.span_step.specs.Outcomes.{ContextOutcome, outcomes}
use Rattle.span_step.specs.Courses.{Rules, watched, start, followed, prompt, delayed, courses}
use Rattle.span_step.specs.declared.narrowing.Narrowing.{Narrowing}
use Rattle.span_step.specs.Narrowing.{all_narrowed, kept, knowing, narrowed, narrowing_after, nexts_of, with_held}
use Rattle.span_step.specs.Steps.{Visit, visit_of, with_end, end_of, with_outcome, with_unmet, nothing_found, wild_step, machine_steps, context_steps, step_by, is_lost, is_left_out}
use Rattle.span_step.specs.Laws.{NonePass}

-- the ages of the visit make no difference
outcome_left_out : (v : Visit) (a b : Ages) (t : Stepped) (o : ContextOutcome) → v.left_out ≡ true → with_outcome (record v { ages = a }) t o ≡ with_outcome (record v { ages = b }) t o
unfolding with_outcome with_end
outcome_left_out v a b t o e = rw e refl

pub step_left_out : (s : MachineSetup) (sp : Span) (op : Op) (k : Context) (a b : Ages) → is_left_out sp k.address ≡ true → step_by s sp op k a ≡ step_by s sp op k b
unfolding step_by visit_of
step_left_out s sp op k a b e = on (is_lost s op) where
  w : Narrowing
  w = narrowing_after sp k.address

  on : (z : Bool) → cond z (wild_step w) (with_unmet (fold (with_outcome (visit_of s sp op k a)) (nothing_found w) (outcomes op.act s sp k))) ≡ cond z (wild_step w) (with_unmet (fold (with_outcome (visit_of s sp op k b)) (nothing_found w) (outcomes op.act s sp k)))
  on true = refl
  on false = ap with_unmet (fold_along (with_outcome (visit_of s sp op k a)) (with_outcome (visit_of s sp op k b)) (λ t u. t ≡ u) (λ t u o q. rw (← q) (outcome_left_out (visit_of s sp op k a) a b t o e)) (nothing_found w) (nothing_found w) (outcomes op.act s sp k) refl)

pub left_out_alike : (u : Setup) (sp : Span) (k : Context) (a : Ages) → is_left_out sp k.address ≡ true → context_steps u sp k a ≡ context_steps u sp k Empty
unfolding context_steps
left_out_alike u sp k a e = on _ where
  on : (m : Option MachineSetup) → machine_steps m u.memory sp k a ≡ machine_steps m u.memory sp k Empty
  on None = refl
  on (Some s) = step_left_out s sp _ k a Empty e

-- a course that doesn't pass never will
stopped : (r : Rules) (w : Watch) (ticks : List Tick) → w.passes ≡ false → (followed r ticks w).passes ≡ false
unfolding watched
stopped r w ticks e = fold_along (watched r) (watched r) (λ w v. w.passes ≡ false) (λ w v t q. still w t q) w w ticks e where
  still : (w : Watch) (t : Tick) → w.passes ≡ false → (watched r w t).passes ≡ false
  still w t q = rw q refl

none_append : (ms ns : List Next) → NonePass ms → NonePass ns → NonePass (ms ++ ns)
none_append [] ns h p = p
none_append (m ∷ ms) ns h p = (h.0, none_append ms ns h.1 p)

none_map : (n : Next) (x : Option ℕ) (ys : List (Option ℕ)) → n.passes ≡ false → NonePass (map (λ y. knowing n x y) ys)
none_map n x [] h = tt
none_map n x (y ∷ ys) h = (h, none_map n x ys h)

none_pairs : (n : Next) (xs ys : List (Option ℕ)) → n.passes ≡ false → NonePass (flat_map (λ x. map (λ y. knowing n x y) ys) xs)
none_pairs n [] ys h = tt
none_pairs n (x ∷ xs) ys h = none_append _ _ (none_map n x ys h) (none_pairs n xs ys h)

none_narrowed : (w : Narrowing) (n : Next) → n.passes ≡ false → NonePass (narrowed w n)
unfolding narrowed
none_narrowed w n h = none_pairs n (kept w.x n.context.x) (kept w.y n.context.y) h

-- where no end passes nothing that comes next does
none_all : (w : Narrowing) (ends : List Next) → NonePass ends → NonePass (all_narrowed w ends)
none_all w [] h = tt
none_all w (n ∷ ends) h = none_append (narrowed w n) (all_narrowed w ends) (none_narrowed w n h.0) (none_all w ends h.1)

none_end : (v : Visit) (o : ContextOutcome) (found : Stepped) (ticks : List Tick) → v.left_out ≡ true → NonePass found.ends → NonePass (with_end v o found (end_of v ticks)).ends
unfolding with_end
none_end v o found ticks e h = none_append found.ends _ h (stopped v.rules (start v.left_out v.context v.ages) ticks (rw e refl), tt)

none_outcome : (v : Visit) (found : Stepped) (o : ContextOutcome) → v.left_out ≡ true → NonePass found.ends → NonePass (with_outcome v found o).ends
unfolding with_outcome courses
none_outcome v found o e h = by v.stalls where
  p : ContextOutcome
  p = with_held found.narrowing o

  by : (z : Bool) → NonePass (fold (λ t ticks. with_end v p t (end_of v ticks)) found (courses z v.side o v.delay)).ends
  by true = none_end v p _ (delayed v.side o v.delay) e (none_end v p found (prompt v.side o v.delay) e h)
  by false = none_end v p found (prompt v.side o v.delay) e h

step_stops : (s : MachineSetup) (sp : Span) (op : Op) (k : Context) (a : Ages) → is_left_out sp k.address ≡ true → NonePass (step_by s sp op k a).ends
unfolding step_by visit_of
step_stops s sp op k a e = on (is_lost s op) where
  w : Narrowing
  w = narrowing_after sp k.address

  on : (z : Bool) → NonePass (cond z (wild_step w) (with_unmet (fold (with_outcome (visit_of s sp op k a)) (nothing_found w) (outcomes op.act s sp k)))).ends
  on true = tt
  on false = fold_along (with_outcome (visit_of s sp op k a)) (with_outcome (visit_of s sp op k a)) (λ t u. NonePass t.ends) (λ t u o h. none_outcome (visit_of s sp op k a) t o e h) (nothing_found w) (nothing_found w) (outcomes op.act s sp k) tt

pub left_out_stops : (u : Setup) (sp : Span) (k : Context) (a : Ages) → is_left_out sp k.address ≡ true → NonePass (nexts_of (context_steps u sp k a))
unfolding context_steps nexts_of
left_out_stops u sp k a e = on _ where
  on : (m : Option MachineSetup) → NonePass (nexts_of (machine_steps m u.memory sp k a))
  on None = tt
  on (Some s) = none_all _ _ (step_stops s sp _ k a e)
