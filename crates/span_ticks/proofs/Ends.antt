-- A sound row's courses end in rows: taken from the step's fold to each outcome.
use Rattle.std.proofs.Common.{◌≡◌, ℕ, Bool, true, false, Option, Some, None, List, [], ◌∷◌, ◌++◌, fold, is_some, slice_index_or, cond, refl, sym, ap, subst, ◌∙◌}
use Rattle.std.proofs.lemmas.Bool.{or_parts}
use Rattle.std.specs.List.{AllByRecursion}
use Rattle.pin_matrix.specs.Followed.{followed}
use Rattle.pin_matrix.specs.declared.machine.MachineSetup.{MachineSetup}
use Rattle.pin_matrix.specs.declared.setup.Setup.{Setup}
use Rattle.pin_matrix.specs.declared.span.Span.{Span}
use Rattle.pio_encode.specs.declared.op.Op.{Op}
use Rattle.span_step.specs.declared.ages.Ages.{Ages}
use Rattle.span_step.specs.declared.narrowing.Narrowing.{Narrowing}
use Rattle.span_step.specs.declared.stepped.Next.{Next}
use Rattle.span_step.specs.declared.stepped.Stepped.{Stepped}
use Rattle.span_step.specs.Contexts.{Context}
use Rattle.span_step.specs.Outcomes.{ContextOutcome, outcomes, is_wild}
use Rattle.span_step.specs.Courses.{courses, prompt, delayed}
use Rattle.span_step.specs.Laws.{AllPlaced, first_cause}
use Rattle.span_step.specs.Narrowing.{narrowing_after, narrowed, nexts_of, with_held}
use Rattle.span_step.specs.Steps.{Visit, visit_of, end_after, with_end, end_of, with_outcome, with_unmet, nothing_found, wild_step, is_lost, step_by, machine_steps, context_steps}
use Rattle.span_ticks.specs.Rows.{HasRow, IsSoundRow}
use Rattle.span_ticks.specs.UnderWay.{Watch, op_at}
use Rattle.span_ticks.proofs.Clean.{IsClean, clean_of, clean_left, clean_right}
use Rattle.span_ticks.proofs.Explained.{all_flat}
use Rattle.span_ticks.proofs.Narrowing.{IsAtRows, at_rows}

-- all that can come next after an end is in range and has a row
abbrev pub IsNarrowedWell : (Context → Option Ages) → Span → Narrowing → Next → Type 0
IsNarrowedWell rows sp nw n = AllByRecursion (IsAtRows rows (followed sp)) (narrowed nw n)

-- a course ends without cause, so that what can come next has rows
pub record EndsWell (rows : Context → Option Ages) (sp : Span) (nw : Narrowing) (v : Visit) (o : ContextOutcome) (w : Watch) : Type 0 where
  pub row : IsNarrowedWell rows sp nw (end_after v (with_held nw o) w)
  pub clean : IsClean w.causes

-- so do all courses of an outcome
pub record AllEnds (rows : Context → Option Ages) (sp : Span) (nw : Narrowing) (v : Visit) (o : ContextOutcome) : Type 0 where
  pub at_once : EndsWell rows sp nw v o (end_of v (prompt v.side o v.delay))
  pub later : v.stalls ≡ true → EndsWell rows sp nw v o (end_of v (delayed v.side o v.delay))

-- all that is found is so
record IsFine (rows : Context → Option Ages) (sp : Span) (t : Stepped) : Type 0 where
  ends : AllByRecursion (IsNarrowedWell rows sp t.narrowing) t.ends
  clean : IsClean t.causes

all_last : (P : Next → Type 0) (xs : List Next) (y : Next) → AllByRecursion P (xs ++ y ∷ []) → AllByRecursion P xs × P y
all_last P [] y h = (tt, h.0)
all_last P (x ∷ xs) y h = let p = all_last P xs y h.1 in ((h.0, p.0), p.1)

-- an outcome's end, with what is known of X and Y there
fine_end : (rows : Context → Option Ages) (sp : Span) (v : Visit) (o : ContextOutcome) (t : Stepped) (w : Watch) → IsFine rows sp (with_end v (with_held t.narrowing o) t w)
    → IsFine rows sp t × EndsWell rows sp t.narrowing v o w
unfolding with_end
fine_end rows sp v o t w h =
    let p = all_last (IsNarrowedWell rows sp t.narrowing) t.ends (end_after v (with_held t.narrowing o) w) h.ends in (
      record { ends = p.0; clean = clean_left t.causes w.causes h.clean },
      record { row = p.1; clean = clean_right t.causes w.causes h.clean },
    )

fine_outcome : (rows : Context → Option Ages) (sp : Span) (v : Visit) (t : Stepped) (o : ContextOutcome) → IsFine rows sp (with_outcome v t o) → IsFine rows sp t × AllEnds rows sp t.narrowing v o
unfolding with_outcome courses with_end
fine_outcome rows sp v t o h = by v.stalls refl h where
  by : (z : Bool) → v.stalls ≡ z → IsFine rows sp (fold (λ x ticks. with_end v (with_held t.narrowing o) x (end_of v ticks)) t (courses z v.side o v.delay)) → IsFine rows sp t × AllEnds rows sp t.narrowing v o
  by true e h =
      let second = fine_end rows sp v o (with_end v (with_held t.narrowing o) t (end_of v (prompt v.side o v.delay))) (end_of v (delayed v.side o v.delay)) h in
      let first = fine_end rows sp v o t (end_of v (prompt v.side o v.delay)) second.0 in
      (first.0, record { at_once = first.1; later = λ s. record { row = second.1.row; clean = second.1.clean } })
  by false e h =
      let first = fine_end rows sp v o t (end_of v (prompt v.side o v.delay)) h in
      (first.0, record { at_once = first.1; later = λ s. absurd (let x : false ≡ true = sym e ∙ s in cc) })

-- an outcome leaves it as narrow
same_narrowing : (v : Visit) (t : Stepped) (o : ContextOutcome) → (with_outcome v t o).narrowing ≡ t.narrowing
unfolding with_outcome courses with_end
same_narrowing v t o = by v.stalls where
  by : (z : Bool) → (fold (λ x ticks. with_end v (with_held t.narrowing o) x (end_of v ticks)) t (courses z v.side o v.delay)).narrowing ≡ t.narrowing
  by true = refl
  by false = refl

fine_outcomes : (rows : Context → Option Ages) (sp : Span) (v : Visit) (t : Stepped) (os : List ContextOutcome) → IsFine rows sp (fold (with_outcome v) t os) → IsFine rows sp t × AllByRecursion (AllEnds rows sp t.narrowing v) os
fine_outcomes rows sp v t [] h = (h, tt)
fine_outcomes rows sp v t (o ∷ os) h =
    let rest = fine_outcomes rows sp v (with_outcome v t o) os h in
    let here = fine_outcome rows sp v t o rest.0 in
    (here.0, (here.1, subst (λ nw. AllByRecursion (AllEnds rows sp nw v) os) (same_narrowing v t o) rest.1))

-- what is known of a row of the span's machine
pub record IsKnownRow (u : Setup) (sp : Span) (rows : Context → Option Ages) (s : MachineSetup) (k : Context) (a : Ages) : Type 0 where
  pub tame : is_wild (op_at u s k.address).act ≡ false
  pub ends : AllByRecursion (AllEnds rows sp (narrowing_after sp k.address) (visit_of s sp (op_at u s k.address) k a)) (outcomes (op_at u s k.address).act s sp k)

pub known_row : (u : Setup) (sp : Span) (rows : Context → Option Ages) (s : MachineSetup) (k : Context) (a : Ages)
    → slice_index_or u.machines sp.machine None ≡ Some s → IsSoundRow u sp rows k a → AllPlaced (followed sp) (nexts_of (context_steps u sp k a))
    → IsKnownRow u sp rows s k a
unfolding context_steps step_by nexts_of
known_row u sp rows s k a configured sound placed =
    let op : Op = op_at u s k.address in
    let same : context_steps u sp k a ≡ step_by s sp op k a = ap (λ m. machine_steps m u.memory sp k a) configured in
    let closed : AllByRecursion (HasRow rows) (nexts_of (step_by s sp op k a)) = subst (λ x. AllByRecursion (HasRow rows) (nexts_of x)) same sound.closed in
    let good : first_cause (step_by s sp op k a).causes ≡ None = subst (λ (x : Stepped). first_cause x.causes ≡ None) same sound.good in
    let within : AllPlaced (followed sp) (nexts_of (step_by s sp op k a)) = subst (λ x. AllPlaced (followed sp) (nexts_of x)) same placed in
    by (is_lost s op) refl (at_rows rows (followed sp) _ closed within) (clean_of _ good) where
      by : (z : Bool) → is_lost s (op_at u s k.address) ≡ z
          → AllByRecursion (IsAtRows rows (followed sp)) (nexts_of (cond z (wild_step (narrowing_after sp k.address)) (with_unmet (fold (with_outcome (visit_of s sp (op_at u s k.address) k a)) (nothing_found (narrowing_after sp k.address)) (outcomes (op_at u s k.address).act s sp k)))))
          → IsClean (cond z (wild_step (narrowing_after sp k.address)) (with_unmet (fold (with_outcome (visit_of s sp (op_at u s k.address) k a)) (nothing_found (narrowing_after sp k.address)) (outcomes (op_at u s k.address).act s sp k)))).causes
          → IsKnownRow u sp rows s k a
      by true e all c = absurd (let x : true ≡ false = c.u4 in cc)
      by false e all c =
          let found : Stepped = fold (with_outcome (visit_of s sp (op_at u s k.address) k a)) (nothing_found (narrowing_after sp k.address)) (outcomes (op_at u s k.address).act s sp k) in
          let fine : IsFine rows sp found = record {
            ends = all_flat (IsAtRows rows (followed sp)) (λ n. narrowed found.narrowing n) found.ends all;
            clean = record { u1 = c.u1; u2 = c.u2; u3 = c.u3; u4 = c.u4 };
          } in
          record { tame = (or_parts _ _ e).0; ends = (fine_outcomes rows sp (visit_of s sp (op_at u s k.address) k a) (nothing_found (narrowing_after sp k.address)) _ fine).1 }

-- a row of a sound table isn't lost: the machine begins with no pending word
none_pending : (o : Option ℕ) → is_some o ≡ false → o ≡ None
none_pending None h = refl
none_pending (Some word) h = cc

pub begins_plain : (u : Setup) (sp : Span) (rows : Context → Option Ages) (s : MachineSetup) (k : Context) (a : Ages)
    → slice_index_or u.machines sp.machine None ≡ Some s → IsSoundRow u sp rows k a → s.pending ≡ None
unfolding context_steps step_by
begins_plain u sp rows s k a configured sound =
    let op : Op = op_at u s k.address in
    let same : context_steps u sp k a ≡ step_by s sp op k a = ap (λ m. machine_steps m u.memory sp k a) configured in
    let good : first_cause (step_by s sp op k a).causes ≡ None = subst (λ (x : Stepped). first_cause x.causes ≡ None) same sound.good in
    none_pending s.pending ((or_parts (is_wild op.act) _ (by (is_lost s op) refl good)).1) where
      by : (z : Bool) → is_lost s (op_at u s k.address) ≡ z → first_cause (cond z (wild_step (narrowing_after sp k.address)) (with_unmet (fold (with_outcome (visit_of s sp (op_at u s k.address) k a)) (nothing_found (narrowing_after sp k.address)) (outcomes (op_at u s k.address).act s sp k)))).causes ≡ None → is_lost s (op_at u s k.address) ≡ false
      by true e h = cc
      by false e h = e
