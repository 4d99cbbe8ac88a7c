-- Each visit lies within a row of any closed table; so none is bad where the table is good.
use Rattle.std.proofs.Common.{◌≡◌, ℕ, zero, suc, Bool, true, false, None, List, [], ◌∷◌, refl, sym, subst, ◌∙◌, arith}
use Rattle.std.specs.List.{Contains}
use Rattle.pin_matrix.specs.Followed.{followed}
use Rattle.pin_matrix.specs.declared.assume.Follow.{Follow}
use Rattle.pin_matrix.specs.declared.machine.MachineSetup.{MachineSetup}
use Rattle.pin_matrix.specs.declared.setup.Setup.{Setup}
use Rattle.pin_matrix.specs.declared.span.Span.{Span}
use Rattle.span_step.specs.declared.ages.Ages.{Ages}
use Rattle.span_step.specs.declared.cause.Causes.{Causes}
use Rattle.span_step.specs.Contexts.{Context, IsInside, is_placed}
use Rattle.span_step.specs.Laws.{AreAlike, GoesLike, AreInside, AllImplied, IsNarrower, first_cause}
use Rattle.span_step.specs.Narrowing.{nexts_of}
use Rattle.span_step.specs.Steps.{context_steps}
use Rattle.span_bounds.specs.declared.entry.Entry.{Entry}
use Rattle.span_bounds.specs.declared.entry.Entry.TheVariants.{Absent, Present}
use Rattle.span_bounds.specs.declared.row.Row.{Row}
use Rattle.span_bounds.specs.Numbers.{number_of}
use Rattle.span_bounds.specs.Tables.{entry_at, LiesAt, IsTable, EachRow, AllLieIn, IsProvable}
use Rattle.span_refuted.specs.OneWay.{LeavesNoChoice}
use Rattle.span_refuted.specs.Visits.{visit, cause_at}
use Rattle.span_refuted.proofs.Single.{IsSingle, met, nexts}
use Rattle.span_refuted.proofs.Joining.{IsClean, none_clean, clean_none}
use Rattle.span_refuted.proofs.Visiting.{StaysPlaced, each_visit, landed, next_visit}
use Rattle.span_refuted.proofs.Ranks.{lies_trans}

-- what a law of span_step says: a step is monotone
abbrev pub IsMonotone : Type 0
IsMonotone = (u : Setup) (sp : Span) (k : Context) (a b : Ages) → IsInside a b → IsNarrower (context_steps u sp k a) (context_steps u sp k b)

-- what a law of span_bounds says: each entry is that of a row
abbrev pub AreRows : Type 0
AreRows = (d : Follow) (rows : List Row) (k : Context) (a : Ages) → IsTable d rows → is_placed d k.address k.x k.y ≡ true → entry_at d rows (number_of d k) ≡ Present a → Contains rows (record { context = k; ages = a })

of_row : (P : Row → Type 0) (rows : List Row) (r : Row) → EachRow P rows → Contains rows r → P r
of_row P [] r h (k, l, e) = absurd (omega arith)
of_row P (x ∷ rows) r h (zero, l, e) = rw (← e) h.0
of_row P (x ∷ rows) r h (suc k, l, e) = of_row P rows r h.1 (k, omega arith, e)

-- what lies in a row, and what the row says of it
record HasRow (u : Setup) (sp : Span) (rows : List Row) (k : Context) (a : Ages) : Type 0 where
  ages : Ages
  inside : IsInside a ages
  lies : AllLieIn (followed sp) rows (nexts_of (context_steps u sp k ages))
  good : first_cause (context_steps u sp k ages).causes ≡ None

has_row : AreRows → (u : Setup) (sp : Span) (p : IsProvable u sp) (k : Context) (a : Ages) → is_placed (followed sp) k.address k.x k.y ≡ true → LiesAt a (entry_at (followed sp) p.rows (number_of (followed sp) k)) → HasRow u sp p.rows k a
has_row entries u sp p k a placed h = on (entry_at (followed sp) p.rows (number_of (followed sp) k)) refl h where
  on : (e : Entry) → entry_at (followed sp) p.rows (number_of (followed sp) k) ≡ e → LiesAt a e → HasRow u sp p.rows k a
  on Absent q h = absurd h
  on (Present b) q h = record {
    ages = b;
    inside = h;
    lies = of_row (λ r. AllLieIn (followed sp) p.rows (nexts_of (context_steps u sp r.context r.ages))) p.rows (record { context = k; ages = b }) p.closed.steps (entries (followed sp) p.rows k b p.table placed q);
    good = of_row (λ r. first_cause (context_steps u sp r.context r.ages).causes ≡ None) p.rows (record { context = k; ages = b }) p.good (entries (followed sp) p.rows k b p.table placed q);
  }

-- where a next lies, each that follows it does
follows : (rows : List Row) (u : Setup) (sp : Span) (s : MachineSetup) (k : Context) (a b : Ages) → (h : IsSingle u sp s k)
    → AreAlike (GoesLike AreInside) (landed u sp s k h.outcome a ∷ []) (landed u sp s k h.outcome b ∷ []) → AllLieIn (followed sp) rows (landed u sp s k h.outcome b ∷ [])
    → LiesAt (landed u sp s k h.outcome a).ages (entry_at (followed sp) rows (number_of (followed sp) (landed u sp s k h.outcome a).context))
follows rows u sp s k a b h f l = subst (λ c. LiesAt (landed u sp s k h.outcome a).ages (entry_at (followed sp) rows (number_of (followed sp) c))) (sym f.0.context) (lies_trans _ _ _ f.0.ages l.0)

lies_next : IsMonotone → (u : Setup) (sp : Span) (s : MachineSetup) (rows : List Row) (i : ℕ) → IsSingle u sp s (visit u sp i).0 → HasRow u sp rows (visit u sp i).0 (visit u sp i).1
    → LiesAt (visit u sp (suc i)).1 (entry_at (followed sp) rows (number_of (followed sp) (visit u sp (suc i)).0))
lies_next monotone u sp s rows i h r = rw (next_visit u sp s i h)
    (follows rows u sp s (visit u sp i).0 (visit u sp i).1 r.ages h
    (rw (nexts h (visit u sp i).1, nexts h r.ages) at (monotone u sp (visit u sp i).0 (visit u sp i).1 r.ages r.inside).nexts)
    (rw (nexts h r.ages) at r.lies))

visit_lies : IsMonotone → StaysPlaced → AreRows → (u : Setup) (sp : Span) (c : LeavesNoChoice u sp) (p : IsProvable u sp) → (i : ℕ) → LiesAt (visit u sp i).1 (entry_at (followed sp) p.rows (number_of (followed sp) (visit u sp i).0))
unfolding visit
visit_lies monotone stays entries u sp c p zero = p.closed.starts
visit_lies monotone stays entries u sp c p (suc i) =
    let v = each_visit stays u sp c i in
    lies_next monotone u sp c.machine p.rows i v.single (has_row entries u sp p (visit u sp i).0 (visit u sp i).1 v.placed (visit_lies monotone stays entries u sp c p i))

not_so : (a b : Bool) → (a ≡ true → b ≡ true) → b ≡ false → a ≡ false
not_so false b h e = refl
not_so true b h e = sym (h refl) ∙ e

clean_inside : (a b : Causes) → AllImplied a b → IsClean b → IsClean a
clean_inside a b h c = record { u1 = not_so _ _ h.u1 c.u1; u2 = not_so _ _ h.u2 c.u2; u3 = not_so _ _ h.u3 c.u3; u4 = not_so _ _ h.u4 c.u4 }

pub no_bad_visit : IsMonotone → StaysPlaced → AreRows → (u : Setup) (sp : Span) → LeavesNoChoice u sp → IsProvable u sp → (i : ℕ) → cause_at u sp i ≡ None
no_bad_visit monotone stays entries u sp c p i =
    let v = each_visit stays u sp c i in
    let r = has_row entries u sp p (visit u sp i).0 (visit u sp i).1 v.placed (visit_lies monotone stays entries u sp c p i) in
    clean_none _ (clean_inside _ _ (monotone u sp (visit u sp i).0 (visit u sp i).1 r.ages r.inside).causes (none_clean _ r.good)) (met v.single (visit u sp i).1)
