-- Ages above the greatest bound are bad by U1 at any row that isn't left out, but for one after which no address is known.
use Rattle.std.proofs.Common.{◌≡◌, ℕ, Bool, true, false, ◌&&◌, cond, if◌then◌else◌, IsSome, slice_index_or, slice_index, Option, Some, None, is_some, List, [], ◌∷◌, ◌++◌, map, fold, refl, sym, ap, ◌∙◌, arith}
use Rattle.std.specs.List.{flat_map}
use Rattle.std.proofs.lemmas.Bool.{or_parts, or_left, or_right, true≢false}
use Rattle.std.proofs.lemmas.Bool.Decides.{nat_tests}
use Rattle.std.proofs.lemmas.List.Folds.{fold_along}
use Rattle.pin_matrix.specs.declared.machine.MachineSetup.{MachineSetup}
use Rattle.pin_matrix.specs.declared.mapping.Mapping.{Mapping}
use Rattle.pin_matrix.specs.declared.setup.Setup.{Setup}
use Rattle.pin_matrix.specs.declared.span.PinSignal.{PinSignal}
use Rattle.pin_matrix.specs.declared.span.PinSignal.TheVariants.{Level, Direction}
use Rattle.pin_matrix.specs.declared.span.Span.{Span}
use Rattle.pio_encode.specs.declared.op.Op.{Op}
use Rattle.pio_encode.specs.declared.act.Act.{Act}
use Rattle.pio_encode.specs.declared.act.Act.TheVariants.{Jmp, Wait, In, Out, Push, Pull, Mov, Irq, Set, Nothing}
use Rattle.pio_encode.specs.declared.act.OutDestination.TheVariants as out_destination
use Rattle.pio_encode.specs.declared.act.MovDestination.TheVariants as mov_destination
use Rattle.pio_encode.specs.declared.act.SetDestination.TheVariants as set_destination
use Rattle.pio_encode.specs.Word.{reading_of}
use Rattle.span_step.specs.declared.ages.Ages.{Ages}
use Rattle.span_step.specs.declared.ages.Ages.TheVariants.{Empty, Between}
use Rattle.span_step.specs.declared.cause.Cause.{Cause}
use Rattle.span_step.specs.declared.cause.Cause.TheVariants.{U1, U4}
use Rattle.span_step.specs.declared.cause.Causes.{Causes}
use Rattle.span_step.specs.declared.course.Tick.{Tick}
use Rattle.span_step.specs.declared.course.Watch.{Watch}
use Rattle.span_step.specs.declared.levels.Write.{Write}
use Rattle.span_step.specs.declared.stepped.Stepped.{Stepped}
use Rattle.span_step.specs.Contexts.{Context}
use Rattle.span_step.specs.Outcomes.{ContextOutcome, outcomes, ways, either_level, unknown_levels, is_wild, taken, after_count}
use Rattle.span_step.specs.Courses.{Rules, older, watched, start, followed, prompt, courses, joined, delay_ticks, is_above}
use Rattle.span_step.specs.Narrowing.{narrowing_after, with_held}
use Rattle.span_step.specs.Steps.{Visit, visit_of, with_end, end_of, with_outcome, nothing_found, machine_steps, context_steps, rules_of, step_by, is_lost, is_left_out}
use Rattle.span_step.specs.Laws.{ReachesAge, most_of, most_on, first_cause}
use Rattle.span_step.proofs.LeftOut.{step_left_out}

-- a list has an element
abbrev IsFilled : {A : Type 0} → List A → Type 0
IsFilled [] = ⊥
IsFilled (x ∷ xs) = Unit {0}

map_filled : {A B : Type 0} (f : A → B) (xs : List A) → IsFilled xs → IsFilled (map f xs)
map_filled f [] h = h
map_filled f (x ∷ xs) h = tt

append_filled : {A : Type 0} (xs ys : List A) → IsFilled xs → IsFilled (xs ++ ys)
append_filled [] ys h = absurd h
append_filled (x ∷ xs) ys h = tt

flat_map_filled : {A B : Type 0} (f : A → List B) (xs : List A) → IsFilled xs → ((x : A) → IsFilled (f x)) → IsFilled (flat_map f xs)
flat_map_filled f [] h k = h
flat_map_filled f (x ∷ xs) h k = append_filled (f x) (flat_map f xs) (k x)

either_filled : (held : Bool) → IsFilled (either_level held)
either_filled true = tt
either_filled false = tt

levels_filled : (signal : PinSignal) (m : Mapping) (sp : Span) → IsFilled (unknown_levels signal m sp)
levels_filled signal m sp = both _ _ _ where
  both : (z f t : Bool) → IsFilled {A = Option Bool × Option Bool} (cond z (map (λ l. (l, l)) (either_level f)) (flat_map (λ l. map (λ m. (l, m)) (either_level t)) (either_level f)))
  both true f t = map_filled _ _ (either_filled f)
  both false f t = flat_map_filled _ _ (either_filled f) (λ l. map_filled _ _ (either_filled t))

ways_filled : (t : Option Bool) (address : ℕ) (o : ContextOutcome) → IsFilled (ways t address o)
ways_filled (Some true) address o = tt
ways_filled (Some false) address o = tt
ways_filled None address o = tt

-- where an address is known after it, an instruction has an outcome
outcomes_filled : (act : Act) (s : MachineSetup) (sp : Span) (k : Context) → is_wild act ≡ false → IsFilled (outcomes act s sp k)
unfolding outcomes is_wild
outcomes_filled (Jmp c address) s sp k h = ways_filled (taken c k) address (after_count c k)
outcomes_filled (Wait polarity source index) s sp k h = tt
outcomes_filled (In source count) s sp k h = tt
outcomes_filled (Out out_destination.Pins count) s sp k h = map_filled _ _ (levels_filled Level s.out sp)
outcomes_filled (Out out_destination.X count) s sp k h = tt
outcomes_filled (Out out_destination.Y count) s sp k h = tt
outcomes_filled (Out out_destination.Null count) s sp k h = tt
outcomes_filled (Out out_destination.Pindirs count) s sp k h = map_filled _ _ (levels_filled Direction s.out sp)
outcomes_filled (Out out_destination.Pc count) s sp k h = absurd (true≢false h)
outcomes_filled (Out out_destination.Isr count) s sp k h = tt
outcomes_filled (Out out_destination.Exec count) s sp k h = absurd (true≢false h)
outcomes_filled (Push if_full block) s sp k h = tt
outcomes_filled (Pull if_empty block) s sp k h = tt
outcomes_filled (Mov mov_destination.Pins operation source) s sp k h = map_filled _ _ (levels_filled Level s.out sp)
outcomes_filled (Mov mov_destination.X operation source) s sp k h = tt
outcomes_filled (Mov mov_destination.Y operation source) s sp k h = tt
outcomes_filled (Mov mov_destination.Exec operation source) s sp k h = absurd (true≢false h)
outcomes_filled (Mov mov_destination.Pc operation source) s sp k h = absurd (true≢false h)
outcomes_filled (Mov mov_destination.Isr operation source) s sp k h = tt
outcomes_filled (Mov mov_destination.Osr operation source) s sp k h = tt
outcomes_filled (Irq clear waits index) s sp k h = tt
outcomes_filled (Set set_destination.Pins value) s sp k h = tt
outcomes_filled (Set set_destination.X value) s sp k h = tt
outcomes_filled (Set set_destination.Y value) s sp k h = tt
outcomes_filled (Set set_destination.Pindirs value) s sp k h = tt
outcomes_filled Nothing s sp k h = tt

fold_made : {A B : Type 0} (f : B → A → B) (P : B → Type 0) → ((b : B) (x : A) → P (f b x)) → (b : B) (xs : List A) → IsFilled xs → P (fold f b xs)
fold_made f P made b [] h = absurd h
fold_made f P made b (x ∷ []) h = made b x
fold_made f P made b (x ∷ y ∷ ys) h = fold_made f P made (f b x) (y ∷ ys) tt

above_older : (m : ℕ) (a : Ages) → ReachesAge m a → is_above m (older m a) ≡ true
above_older m Empty h = absurd h
above_older m (Between lo hi) h = grind (arith, nat_tests)

-- a cause that came stays, excused or not
still_u1 : (excused : Bool) (a b : Causes) → a.u1 ≡ true → (if excused then a else joined a b).u1 ≡ true
still_u1 true a b e = e
still_u1 false a b e = or_left _ _ e

watched_u1 : (r : Rules) (w : Watch) (t : Tick) → w.causes.u1 ≡ true → (watched r w t).causes.u1 ≡ true
unfolding watched
watched_u1 r w t e = still_u1 (t.late && r.excuses) w.causes _ e

first_u1 : (r : Rules) (l : Bool) (k : Context) (a : Ages) (x : Bool) (f g : Option Bool) → l ≡ false → r.bounded ≡ true → ReachesAge r.max a → (watched r (start l k a) (record { late = false; finishes = x; from = f; to = g })).causes.u1 ≡ true
unfolding watched
first_u1 r l k a x f g e b h = rw (e, b) (above_older r.max a h)

prompt_u1 : (r : Rules) (l : Bool) (k : Context) (a : Ages) (side : Write) (o : ContextOutcome) (d : ℕ) → l ≡ false → r.bounded ≡ true → ReachesAge r.max a → (followed r (prompt side o d) (start l k a)).causes.u1 ≡ true
unfolding prompt
prompt_u1 r l k a side o d e b h =
    fold_along (watched r) (watched r) (λ w v. w.causes.u1 ≡ true) (λ w v t c. watched_u1 r w t c) _ (start l k a) (delay_ticks d) (first_u1 r l k a _ _ _ e b h)

outcome_u1 : (v : Visit) (found : Stepped) (o : ContextOutcome) → v.left_out ≡ false → v.rules.bounded ≡ true → ReachesAge v.rules.max v.ages → (with_outcome v found o).causes.u1 ≡ true
unfolding with_outcome courses with_end
outcome_u1 v found o e b h = by v.stalls where
  by : (z : Bool) → (fold (λ t ticks. with_end v (with_held found.narrowing o) t (end_of v ticks)) found (courses z v.side o v.delay)).causes.u1 ≡ true
  by true = or_left _ _ (or_right found.causes.u1 _ (prompt_u1 v.rules v.left_out v.context v.ages v.side o v.delay e b h))
  by false = or_right found.causes.u1 _ (prompt_u1 v.rules v.left_out v.context v.ages v.side o v.delay e b h)

pub step_u1 : (s : MachineSetup) (sp : Span) (op : Op) (k : Context) (a : Ages) → is_lost s op ≡ false → is_left_out sp k.address ≡ false → IsSome sp.max → ReachesAge (most_on (Some s) sp) a → (step_by s sp op k a).causes.u1 ≡ true
unfolding step_by visit_of rules_of
step_u1 s sp op k a e l b h = rw e
    (fold_made (with_outcome (visit_of s sp op k a)) (λ t. t.causes.u1 ≡ true) (λ t o. outcome_u1 (visit_of s sp op k a) t o l b h) (nothing_found (narrowing_after sp k.address)) (outcomes op.act s sp k) (outcomes_filled op.act s sp k (or_parts (is_wild op.act) (is_some s.pending) e).0))

first_with_u1 : (c : Causes) → c.u1 ≡ true → first_cause c ≡ Some U1
first_with_u1 c e = rw e refl

none_is_none : IsSome {T = MachineSetup} None → ⊥
none_is_none e = cc

-- the cause for which a row is bad whose ages are above the bound
abbrev overdue_cause : Bool → Cause
overdue_cause lost = if lost then U4 else U1

step_first : (s : MachineSetup) (sp : Span) (op : Op) (k : Context) (a : Ages) → is_left_out sp k.address ≡ false → IsSome sp.max → ReachesAge (most_on (Some s) sp) a → first_cause (step_by s sp op k a).causes ≡ Some (overdue_cause (is_lost s op))
unfolding step_by
step_first s sp op k a l b h = on (is_lost s op) refl where
  on : (z : Bool) → is_lost s op ≡ z → first_cause (step_by s sp op k a).causes ≡ Some (overdue_cause z)
  on true e = rw e refl
  on false e = first_with_u1 _ (step_u1 s sp op k a e l b h)

step_alike : (s : MachineSetup) (sp : Span) (op : Op) (k : Context) (a b : Ages) → IsSome sp.max → ReachesAge (most_on (Some s) sp) a → ReachesAge (most_on (Some s) sp) b → first_cause (step_by s sp op k a).causes ≡ first_cause (step_by s sp op k b).causes
step_alike s sp op k a b d h l = on (is_left_out sp k.address) refl where
  on : (z : Bool) → is_left_out sp k.address ≡ z → first_cause (step_by s sp op k a).causes ≡ first_cause (step_by s sp op k b).causes
  on true e = ap (λ (t : Stepped). first_cause t.causes) (step_left_out s sp op k a b e)
  on false e = step_first s sp op k a e d h ∙ sym (step_first s sp op k b e d l)

-- the span's machine is configured
abbrev pub IsConfigured : Setup → Span → Type 0
IsConfigured u sp = IsSome (slice_index_or u.machines sp.machine None)

pub overdue_alike : (u : Setup) (sp : Span) (k : Context) (a b : Ages) → IsConfigured u sp → IsSome sp.max → ReachesAge (most_of u sp) a → ReachesAge (most_of u sp) b → first_cause (context_steps u sp k a).causes ≡ first_cause (context_steps u sp k b).causes
unfolding context_steps most_of
overdue_alike u sp k a b = on _ where
  on : (m : Option MachineSetup) → IsSome m → IsSome sp.max → ReachesAge (most_on m sp) a → ReachesAge (most_on m sp) b → first_cause (machine_steps m u.memory sp k a).causes ≡ first_cause (machine_steps m u.memory sp k b).causes
  on None c d h l = absurd (none_is_none c)
  on (Some s) c d h l = step_alike s sp _ k a b d h l

pub overdue_bad : (u : Setup) (sp : Span) (k : Context) (a : Ages) → IsConfigured u sp → IsSome sp.max → is_left_out sp k.address ≡ false → ReachesAge (most_of u sp) a → IsSome (first_cause (context_steps u sp k a).causes)
unfolding context_steps most_of
overdue_bad u sp k a = on _ where
  on : (m : Option MachineSetup) → IsSome m → IsSome sp.max → is_left_out sp k.address ≡ false → ReachesAge (most_on m sp) a → IsSome (first_cause (machine_steps m u.memory sp k a).causes)
  on None c d l h = absurd (none_is_none c)
  on (Some s) c d l h = rw (step_first s sp (reading_of (slice_index u.memory k.address) s.side_rule) k a l d h) refl
