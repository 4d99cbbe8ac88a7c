-- The visits are looked at one after another, until one is bad or their table is closed.
use Rattle.std.proofs.Common.{◌≡◌, ℕ, zero, suc, ◌+◌, ◌<◌, ◌≤◌, ◌⊎◌, Option, Some, None, inl, inr, refl, arith}
use Rattle.std.proofs.lemmas.Bool.{cases_lt}
use Rattle.pin_matrix.specs.Followed.{followed}
use Rattle.pin_matrix.specs.declared.setup.Setup.{Setup}
use Rattle.pin_matrix.specs.declared.span.Span.{Span}
use Rattle.span_step.specs.declared.ages.Ages.TheVariants.{Empty}
use Rattle.span_step.specs.declared.cause.Cause.{Cause}
use Rattle.span_step.specs.Steps.{bounds_of}
use Rattle.span_bounds.specs.Numbers.{contexts, number_of}
use Rattle.span_bounds.specs.Tables.{LiesAt, IsProvable, start_context}
use Rattle.span_refuted.specs.OneWay.{LeavesNoChoice}
use Rattle.span_refuted.specs.Visits.{visit, cause_at, HasBadVisit}
use Rattle.span_refuted.proofs.Joining.{none_clean}
use Rattle.span_refuted.proofs.Visiting.{StaysPlaced, IsVisit, each_visit}
use Rattle.span_refuted.proofs.Tabled.{table, lies_visit, lies_later, lies_earlier, held, most_held, held_most, lies_or_held}
use Rattle.span_refuted.proofs.Closing.{AreVisits, good_rows, good_later}
use Rattle.span_refuted.proofs.Listing.{AreNumbers, provable_by}
use Rattle.span_refuted.proofs.Calm.{calm_cause}

-- no visit below this number is bad
abbrev AreGood : Setup → Span → ℕ → Type 0
AreGood u sp n = (j : ℕ) → j < n → cause_at u sp j ≡ None

starts : (u : Setup) (sp : Span) (n : ℕ) → LiesAt Empty (table (followed sp) (visit u sp) (suc n) (number_of (followed sp) (start_context u sp)))
unfolding visit
starts u sp zero = lies_visit (followed sp) (visit u sp) 0
starts u sp (suc n) = lies_later (followed sp) (visit u sp) (suc n) _ Empty (starts u sp n)

visits : AreNumbers → StaysPlaced → (u : Setup) (sp : Span) (c : LeavesNoChoice u sp) → AreVisits u sp c.machine
visits nums stays u sp c = record {
  single = λ i. (each_visit stays u sp c i).single;
  numbered = λ i. nums.context (followed sp) _ (each_visit stays u sp c i).placed;
}

start_below : AreNumbers → StaysPlaced → (u : Setup) (sp : Span) → LeavesNoChoice u sp → number_of (followed sp) (start_context u sp) < contexts (followed sp)
unfolding visit
start_below nums stays u sp c = nums.below (followed sp) (start_context u sp) (each_visit stays u sp c 0).placed

closes : AreNumbers → StaysPlaced → (u : Setup) (sp : Span) (c : LeavesNoChoice u sp) (n : ℕ) → AreGood u sp n → LiesAt (visit u sp n).1 (table (followed sp) (visit u sp) n (number_of (followed sp) (visit u sp n).0)) → IsProvable u sp
closes nums stays u sp c n good lies =
    provable_by nums stays u sp (table (followed sp) (visit u sp) n) (start_below nums stays u sp c)
    (lies_earlier (followed sp) (visit u sp) n _ Empty lies (starts u sp n))
    (λ i a e. good_later u sp _ _ _ a (λ j b. lies_earlier (followed sp) (visit u sp) n j b lies) (good_rows u sp c.machine (visits nums stays u sp c) n (λ j l. none_clean _ (good j l)) i a e))

one_more : (u : Setup) (sp : Span) (n : ℕ) → AreGood u sp n → cause_at u sp n ≡ None → AreGood u sp (suc n)
one_more u sp n good e j l = elim (cases_lt j n) [ inl less ↦ good j less | inr same ↦ (let q : j ≡ n = omega arith in rw q e) ]

by_cause : (u : Setup) (sp : Span) (c : LeavesNoChoice u sp) (n : ℕ) → IsVisit u sp c.machine n → AreGood u sp n → (cause_at u sp n ≡ None → IsProvable u sp ⊎ HasBadVisit u sp)
    → (x : Option Cause) → cause_at u sp n ≡ x → IsProvable u sp ⊎ HasBadVisit u sp
by_cause u sp c n v good on None e = on e
by_cause u sp c n v good on (Some x) e = inr (record { number = n; first = record { cause = calm_cause u sp c.machine _ _ x v.single e; earlier = good } })

search_on : AreNumbers → StaysPlaced → (u : Setup) (sp : Span) (c : LeavesNoChoice u sp) (left n : ℕ)
    → most_held (followed sp) ((bounds_of sp c.machine).1 + 1) < held (followed sp) ((bounds_of sp c.machine).1 + 1) (visit u sp) n + left → AreGood u sp n → IsProvable u sp ⊎ HasBadVisit u sp
search_on nums stays u sp c zero n more good = absurd (full _ _ (held_most (followed sp) ((bounds_of sp c.machine).1 + 1) (visit u sp) (λ j. (each_visit stays u sp c j).small) n) more) where
  full : (a b : ℕ) → a ≤ b → b < a + 0 → ⊥
  full a b h k = omega arith
search_on nums stays u sp c (suc left) n more good = elim (lies_or_held (followed sp) ((bounds_of sp c.machine).1 + 1) (visit u sp) (λ j. (each_visit stays u sp c j).small) n (nums.below (followed sp) (visit u sp n).0 (each_visit stays u sp c n).placed)) [
  | inl lies ↦ inl (closes nums stays u sp c n good lies)
  | inr grows ↦ by_cause u sp c n (each_visit stays u sp c n) good (λ e. search_on nums stays u sp c left (suc n) (enough _ _ _ left more grows) (one_more u sp n good e)) (cause_at u sp n) refl
] where
  enough : (most now next left : ℕ) → most < now + suc left → now < next → most < next + left
  enough most now next left h k = omega arith

pub decided : AreNumbers → StaysPlaced → (u : Setup) (sp : Span) → LeavesNoChoice u sp → IsProvable u sp ⊎ HasBadVisit u sp
decided nums stays u sp c = search_on nums stays u sp c (most_held (followed sp) ((bounds_of sp c.machine).1 + 1) + 1) 0 (omega arith) (λ j l. absurd (none j l)) where
  none : (j : ℕ) → j < 0 → ⊥
  none j l = omega arith
