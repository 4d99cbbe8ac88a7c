-- Each row of the table of the visits so far leads into the table with one visit more, and is good where the visits are.
use Rattle.std.proofs.Common.{◌≡◌, ℕ, zero, suc, ◌<◌, ◌==◌, Bool, true, false, cond, List, [], ◌∷◌, refl, subst, arith}
use Rattle.std.proofs.lemmas.Bool.Decides.{nat_tests}
use Rattle.pin_matrix.specs.Followed.{followed}
use Rattle.pin_matrix.specs.declared.assume.Follow.{Follow}
use Rattle.pin_matrix.specs.declared.machine.MachineSetup.{MachineSetup}
use Rattle.pin_matrix.specs.declared.setup.Setup.{Setup}
use Rattle.pin_matrix.specs.declared.span.Span.{Span}
use Rattle.span_step.specs.declared.ages.Ages.{Ages}
use Rattle.span_step.specs.declared.stepped.Next.{Next}
use Rattle.span_step.specs.Contexts.{Context}
use Rattle.span_step.specs.Courses.{no_causes}
use Rattle.span_step.specs.Narrowing.{nexts_of}
use Rattle.span_step.specs.Steps.{context_steps, rules_of}
use Rattle.span_bounds.specs.declared.entry.Entry.{Entry}
use Rattle.span_bounds.specs.declared.entry.Entry.TheVariants.{Absent, Present}
use Rattle.span_bounds.specs.Numbers.{number_of, context_at}
use Rattle.span_bounds.specs.Tables.{LiesAt}
use Rattle.span_bounds.specs.Edges.{AllLie, spot}
use Rattle.span_bounds.specs.Sums.{join, join_into}
use Rattle.span_refuted.specs.OneWay.{instruction_at}
use Rattle.span_refuted.specs.Visits.{visit}
use Rattle.span_refuted.proofs.Single.{Watch, IsSingle, end, course, met, nexts}
use Rattle.span_refuted.proofs.Joining.{IsClean, but_met, met_too, clean_joined, clean_right, followed_joins, start_joins, Joins}
use Rattle.span_refuted.proofs.Visiting.{landed, next_visit}
use Rattle.span_refuted.proofs.Ranks.{join_lies}
use Rattle.span_refuted.proofs.Tabled.{table, lies_visit, lies_later}

-- a row's nexts lie in a table, and it is good
pub record IsGoodRow (u : Setup) (sp : Span) (f : ℕ → Entry) (k : Context) (a : Ages) : Type 0 where
  pub lies : AllLie (followed sp) f (nexts_of (context_steps u sp k a))
  pub clean : IsClean (context_steps u sp k a).causes
  pub met : (context_steps u sp k a).causes.u6 ≡ false

pub good_later : (u : Setup) (sp : Span) (f g : ℕ → Entry) (k : Context) (a : Ages) → ((i : ℕ) (b : Ages) → LiesAt b (f i) → LiesAt b (g i)) → IsGoodRow u sp f k a → IsGoodRow u sp g k a
good_later u sp f g k a more h = record { lies = each _ h.lies; clean = h.clean; met = h.met } where
  each : (ns : List Next) → AllLie (followed sp) f ns → AllLie (followed sp) g ns
  each [] l = tt
  each (n ∷ ns) l = (more (spot (followed sp) n) n.ages l.0, each ns l.1)

-- a good row at joined ages
good_join : (u : Setup) (sp : Span) (s : MachineSetup) (f : ℕ → Entry) (k : Context) (a b : Ages) → IsSingle u sp s k
    → IsGoodRow u sp f k a → IsGoodRow u sp f k b → IsGoodRow u sp f k (join a b)
good_join u sp s f k a b h p q = record {
  lies = rw (nexts h (join a b)) (lies, tt);
  clean = rw (h.step (join a b)) (but_met _ (clean_joined _ _ none (joins.clean (clean_right no_causes (at a).causes (met_too _ (rw (h.step a) at p.clean))) (clean_right no_causes (at b).causes (met_too _ (rw (h.step b) at q.clean))))));
  met = met h (join a b);
} where
  at : Ages → Watch
  at c = end s sp (instruction_at u s k.address) h.outcome k c

  joins : Joins (end s sp (instruction_at u s k.address) h.outcome k a) (end s sp (instruction_at u s k.address) h.outcome k b) (end s sp (instruction_at u s k.address) h.outcome k (join a b))
  joins = followed_joins (rules_of s sp k.address) (course s sp (instruction_at u s k.address) h.outcome) _ _ _ (start_joins k a b)

  none : IsClean no_causes
  none = record { u1 = refl; u2 = refl; u3 = refl; u4 = refl }

  left : LiesAt (landed u sp s k h.outcome a).ages (f (number_of (followed sp) (landed u sp s k h.outcome a).context))
  left = (rw (nexts h a) at p.lies).0

  right : LiesAt (landed u sp s k h.outcome b).ages (f (number_of (followed sp) (landed u sp s k h.outcome b).context))
  right = (rw (nexts h b) at q.lies).0

  lies : LiesAt (landed u sp s k h.outcome (join a b)).ages (f (number_of (followed sp) (landed u sp s k h.outcome (join a b)).context))
  lies = rw (joins.from_joined, joins.to_joined, joins.ages) (join_lies _ _ _ left (rw (joins.from, joins.to) at right))

-- the row of a visit
good_visit : (u : Setup) (sp : Span) (s : MachineSetup) (n : ℕ) → IsSingle u sp s (visit u sp n).0 → IsClean (context_steps u sp (visit u sp n).0 (visit u sp n).1).causes
    → IsGoodRow u sp (table (followed sp) (visit u sp) (suc (suc n))) (visit u sp n).0 (visit u sp n).1
good_visit u sp s n h c = record { lies = rw (nexts h (visit u sp n).1) (lies, tt); clean = c; met = met h (visit u sp n).1 } where
  lies : LiesAt (landed u sp s (visit u sp n).0 h.outcome (visit u sp n).1).ages (table (followed sp) (visit u sp) (suc (suc n)) (number_of (followed sp) (landed u sp s (visit u sp n).0 h.outcome (visit u sp n).1).context))
  lies = subst (λ v. LiesAt v.1 (table (followed sp) (visit u sp) (suc (suc n)) (number_of (followed sp) v.0))) (next_visit u sp s n h) (lies_visit (followed sp) (visit u sp) (suc n))

-- a visit and what the table has at its context
good_joined : (u : Setup) (sp : Span) (s : MachineSetup) (f : ℕ → Entry) (k : Context) (a : Ages) (e : Entry) → IsSingle u sp s k
    → IsGoodRow u sp f k a → ((b : Ages) → e ≡ Present b → IsGoodRow u sp f k b) → IsGoodRow u sp f k (join_into a e)
good_joined u sp s f k a Absent h p q = p
good_joined u sp s f k a (Present b) h p q = good_join u sp s f k a b h p (q b refl)

-- what is known of visits
pub record AreVisits (u : Setup) (sp : Span) (s : MachineSetup) : Type 0 where
  pub single : (i : ℕ) → IsSingle u sp s (visit u sp i).0
  pub numbered : (i : ℕ) → context_at (followed sp) (number_of (followed sp) (visit u sp i).0) ≡ (visit u sp i).0

present : (a b : Ages) → Present a ≡ Present b → a ≡ b
present a b e = cc

one_more : (u : Setup) (sp : Span) (s : MachineSetup) → AreVisits u sp s → (n i : ℕ) (a : Ages)
    → ((b : Ages) → table (followed sp) (visit u sp) n i ≡ Present b → IsGoodRow u sp (table (followed sp) (visit u sp) (suc (suc n))) (context_at (followed sp) i) b)
    → IsClean (context_steps u sp (visit u sp n).0 (visit u sp n).1).causes
    → table (followed sp) (visit u sp) (suc n) i ≡ Present a → IsGoodRow u sp (table (followed sp) (visit u sp) (suc (suc n))) (context_at (followed sp) i) a
unfolding table
one_more u sp s v n i a old c e = on (number_of (followed sp) (visit u sp n).0 == i) refl e where
  here : context_at (followed sp) i ≡ (visit u sp n).0 → IsGoodRow u sp (table (followed sp) (visit u sp) (suc (suc n))) (context_at (followed sp) i) (join_into (visit u sp n).1 (table (followed sp) (visit u sp) n i))
  here q = rw q (good_joined u sp s _ (visit u sp n).0 (visit u sp n).1 (table (followed sp) (visit u sp) n i) (v.single n) (good_visit u sp s n (v.single n) c) (λ b r. rw q at (old b r)))

  on : (z : Bool) → (number_of (followed sp) (visit u sp n).0 == i) ≡ z → cond z (Present (join_into (visit u sp n).1 (table (followed sp) (visit u sp) n i))) (table (followed sp) (visit u sp) n i) ≡ Present a
      → IsGoodRow u sp (table (followed sp) (visit u sp) (suc (suc n))) (context_at (followed sp) i) a
  on true q r = rw (← present _ _ r) (here (let m : number_of (followed sp) (visit u sp n).0 ≡ i = grind (arith, nat_tests) in rw (← m) (v.numbered n)))
  on false q r = old a r

no_row : (d : Follow) (v : ℕ → Context × Ages) (i : ℕ) (a : Ages) {P : Type 0} → table d v zero i ≡ Present a → P
unfolding table
no_row d v i a e = cc

pub good_rows : (u : Setup) (sp : Span) (s : MachineSetup) → AreVisits u sp s → (n : ℕ) → ((j : ℕ) → j < n → IsClean (context_steps u sp (visit u sp j).0 (visit u sp j).1).causes)
    → (i : ℕ) (a : Ages) → table (followed sp) (visit u sp) n i ≡ Present a → IsGoodRow u sp (table (followed sp) (visit u sp) (suc n)) (context_at (followed sp) i) a
good_rows u sp s v zero c i a e = no_row (followed sp) (visit u sp) i a e
good_rows u sp s v (suc n) c i a e =
    one_more u sp s v n i a (λ b q. good_later u sp _ _ _ b (λ j d. lies_later (followed sp) (visit u sp) (suc n) j d) (good_rows u sp s v n (λ j l. c j (omega arith)) i b q)) (c n (omega arith)) e
