-- The ages after a step have their least at most their greatest, where those before have.
use Rattle.std.proofs.Common.{ℕ, ◌≤◌, cond, Bool, true, false, List, [], ◌∷◌, ◌++◌, map, Option, Some, None, arith}
use Rattle.std.specs.Prelude.{flat_map, fold, slice_index, slice_index_or}
use Rattle.pio_encode.specs.declared.op.Op.{Op}
use Rattle.pio_encode.specs.Word.{reading_of}
use Rattle.pin_matrix.specs.declared.machine.MachineSetup.{MachineSetup}
use Rattle.pin_matrix.specs.declared.setup.Setup.{Setup}
use Rattle.pin_matrix.specs.declared.span.Span.{Span}
use Rattle.span_step.specs.declared.ages.Ages.{Ages}
use Rattle.span_step.specs.declared.ages.Ages.TheVariants.{Empty, Between}
use Rattle.span_step.specs.declared.narrowing.Narrowing.{Narrowing}
use Rattle.span_step.specs.declared.stepped.Next.{Next}
use Rattle.span_step.specs.declared.stepped.Stepped.{Stepped}
use Rattle.span_step.specs.Contexts.{Context}
use Rattle.span_step.specs.Courses.{Rules, start, delay_tick, older, with_fresh, after_events, watched, followed, courses}
use Rattle.span_step.specs.Narrowing.{all_narrowed, kept, knowing, narrowed, narrowing_after, nexts_of, with_held}
use Rattle.span_step.specs.Outcomes.{ContextOutcome, outcomes}
use Rattle.span_step.specs.Steps.{Visit, visit_of, with_end, end_of, with_outcome, nothing_found, wild_step, with_unmet, step_by, machine_steps, context_steps, is_lost}

-- the type of a value
abbrev type_of : {W : Type 0} → W → Type 0
type_of {W} w = W

-- what is known in the middle of a course, and a tick of it
abbrev Watch : Type 0
Watch = type_of (start false (record { address = 0; x = None; y = None; from = false; to = false }) Empty)

abbrev Tick : Type 0
Tick = type_of delay_tick

-- the least age is at most the greatest
abbrev pub IsRight : Ages → Type 0
IsRight Empty = Unit {0}
IsRight (Between lo hi) = lo ≤ hi

-- so are those of each next
abbrev pub AllRight : List Next → Type 0
AllRight [] = Unit {0}
AllRight (n ∷ ns) = IsRight n.ages × AllRight ns

older_right : (most : ℕ) (a : Ages) → IsRight a → IsRight (older most a)
older_right most Empty h = tt
older_right most (Between lo hi) h = omega (arith, h)

fresh_right : (a : Ages) → IsRight a → IsRight (with_fresh a)
fresh_right Empty h = omega arith
fresh_right (Between lo hi) h = omega arith

cond_right : (b : Bool) (x y : Ages) → IsRight x → IsRight y → IsRight (cond b x y)
cond_right true x y h k = h
cond_right false x y h k = k

edges_right : (closes opens : Bool) (a : Ages) → IsRight a → IsRight (after_events closes opens a)
edges_right closes opens a h =
    let left = cond_right closes Empty a tt h in
    cond_right opens (with_fresh (cond closes Empty a)) (cond closes Empty a) (fresh_right (cond closes Empty a) left) left

tick_right : (r : Rules) (w : Watch) (t : Tick) → IsRight w.ages → IsRight (watched r w t).ages
unfolding watched
tick_right r w t h = edges_right _ _ _ (cond_right t.late w.ages (older r.max w.ages) h (older_right r.max w.ages h))

fold_keeps : {S X : Type 0} (P : S → Type 0) (f : S → X → S) → ((s : S) (x : X) → P s → P (f s x)) → (xs : List X) (s : S) → P s → P (fold f s xs)
fold_keeps P f step [] s h = h
fold_keeps P f step (x ∷ xs) s h = fold_keeps P f step xs (f s x) (step s x h)

course_right : (r : Rules) (ticks : List Tick) (w : Watch) → IsRight w.ages → IsRight (followed r ticks w).ages
course_right r ticks w h = fold_keeps (λ (v : Watch). IsRight v.ages) (watched r) (λ v t k. tick_right r v t k) ticks w h

append_right : (ns : List Next) (n : Next) → AllRight ns → IsRight n.ages → AllRight (ns ++ n ∷ [])
append_right [] n h k = (k, tt)
append_right (m ∷ ns) n h k = (h.0, append_right ns n h.1 k)

both_right : (ms ns : List Next) → AllRight ms → AllRight ns → AllRight (ms ++ ns)
both_right [] ns h k = k
both_right (m ∷ ms) ns h k = (h.0, both_right ms ns h.1 k)

-- what may be known of X and Y after an end leaves its ages
pairs_right : (n : Next) (xs ys : List (Option ℕ)) → IsRight n.ages → AllRight (flat_map (λ x. map (λ y. knowing n x y) ys) xs)
pairs_right n [] ys h = tt
pairs_right n (x ∷ xs) ys h = both_right _ _ (row ys) (pairs_right n xs ys h) where
  row : (ys : List (Option ℕ)) → AllRight (map (λ y. knowing n x y) ys)
  row [] = tt
  row (y ∷ ys) = (h, row ys)

narrowed_right : (w : Narrowing) (n : Next) → IsRight n.ages → AllRight (narrowed w n)
unfolding narrowed
narrowed_right w n h = pairs_right n (kept w.x n.context.x) (kept w.y n.context.y) h

all_right : (w : Narrowing) (ends : List Next) → AllRight ends → AllRight (all_narrowed w ends)
all_right w [] h = tt
all_right w (n ∷ ends) h = both_right (narrowed w n) (all_narrowed w ends) (narrowed_right w n h.0) (all_right w ends h.1)

nexts_right : (s : Stepped) → AllRight s.ends → AllRight (nexts_of s)
unfolding nexts_of
nexts_right s h = all_right s.narrowing s.ends h

end_right : (v : Visit) (o : ContextOutcome) (found : Stepped) (w : Watch) → AllRight found.ends → IsRight w.ages → AllRight (with_end v o found w).ends
unfolding with_end
end_right v o found w h k = append_right found.ends _ h k

outcome_right : (v : Visit) (found : Stepped) (o : ContextOutcome) → IsRight v.ages → AllRight found.ends → AllRight (with_outcome v found o).ends
unfolding with_outcome
outcome_right v found o k h =
    let held : ContextOutcome = with_held found.narrowing o in
    fold_keeps (λ (s : Stepped). AllRight s.ends) (λ (s : Stepped) (ticks : List Tick). with_end v held s (end_of v ticks))
    (λ s ticks p. end_right v held s (end_of v ticks) p (course_right v.rules ticks _ (cond_right v.left_out Empty v.ages tt k))) (courses v.stalls v.side o v.delay) found h

outcomes_right : (v : Visit) (w : Narrowing) (os : List ContextOutcome) → IsRight v.ages → AllRight (fold (with_outcome v) (nothing_found w) os).ends
outcomes_right v w os k = fold_keeps (λ (s : Stepped). AllRight s.ends) (with_outcome v) (λ s o p. outcome_right v s o k p) os (nothing_found w) tt

visit_right : (s : MachineSetup) (sp : Span) (op : Op) (k : Context) (a : Ages) → IsRight a → IsRight (visit_of s sp op k a).ages
unfolding visit_of
visit_right s sp op k a h = h

choice_right : (b : Bool) (x y : Stepped) → AllRight x.ends → AllRight y.ends → AllRight (cond b x y).ends
choice_right true x y h k = h
choice_right false x y h k = k

op_right : (s : MachineSetup) (sp : Span) (op : Op) (k : Context) (a : Ages) → IsRight a → AllRight (step_by s sp op k a).ends
unfolding step_by
op_right s sp op k a h =
    let w = narrowing_after sp k.address in
    choice_right (is_lost s op) (wild_step w) (with_unmet (fold (with_outcome (visit_of s sp op k a)) (nothing_found w) (outcomes op.act s sp k))) tt
    (outcomes_right (visit_of s sp op k a) w (outcomes op.act s sp k) (visit_right s sp op k a h))

machine_right : (m : Option MachineSetup) (memory : List ℕ) (sp : Span) (k : Context) (a : Ages) → IsRight a → AllRight (machine_steps m memory sp k a).ends
machine_right None memory sp k a h = tt
machine_right (Some s) memory sp k a h = op_right s sp (reading_of (slice_index memory k.address) s.side_rule) k a h

-- the nexts of a row
pub step_right : (u : Setup) (sp : Span) (k : Context) (a : Ages) → IsRight a → AllRight (nexts_of (context_steps u sp k a))
unfolding context_steps
step_right u sp k a h = nexts_right _ (machine_right (slice_index_or u.machines sp.machine None) u.memory sp k a h)
