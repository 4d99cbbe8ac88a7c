-- The table of the visits so far: at each context the ages of all visits there and between.
use Rattle.std.proofs.Common.{◌≡◌, ℕ, zero, suc, ◌+◌, ◌<◌, ◌≤◌, ◌⊎◌, ◌==◌, Bool, true, false, cond, if◌then◌else◌, refl, inl, inr, arith}
use Rattle.std.proofs.lemmas.Bool.{eq-eqb}
use Rattle.std.proofs.lemmas.Bool.Decides.{nat_tests}
use Rattle.pin_matrix.specs.declared.assume.Follow.{Follow}
use Rattle.span_step.specs.declared.ages.Ages.{Ages}
use Rattle.span_step.specs.Contexts.{Context}
use Rattle.span_bounds.specs.declared.entry.Entry.{Entry}
use Rattle.span_bounds.specs.declared.entry.Entry.TheVariants.{Absent, Present}
use Rattle.span_bounds.specs.Numbers.{contexts, number_of}
use Rattle.span_bounds.specs.Tables.{LiesAt}
use Rattle.span_bounds.specs.Sums.{total, join_into}
use Rattle.span_refuted.proofs.Joining.{AreSmall}
use Rattle.span_refuted.proofs.Ranks.{lies_join, lies_joined, lies_before, rank, IsSmallEntry, small_join, rank_most, rank_more, lies_or_grows, total-more, total-grows}

-- an entry after a visit of the context with this number
abbrev pub with_visit : Follow → Context × Ages → ℕ → Entry → Entry
with_visit d v i e = if number_of d v.0 == i then Present (join_into v.1 e) else e

-- the table of the first n visits, as a function of the context's number
unfoldable pub table : Follow → (ℕ → Context × Ages) → ℕ → ℕ → Entry
table d v zero i = Absent
table d v (suc n) i = with_visit d (v n) i (table d v n i)

by_test : (d : Follow) (P : Entry → Type 0) (v : Context × Ages) (i : ℕ) (e : Entry) → (number_of d v.0 ≡ i → P (Present (join_into v.1 e))) → P e → P (with_visit d v i e)
by_test d P v i e h k = on (number_of d v.0 == i) refl where
  on : (z : Bool) → (number_of d v.0 == i) ≡ z → P (cond z (Present (join_into v.1 e)) e)
  on true q = h (grind (arith, nat_tests))
  on false q = k

pub at_visit : (d : Follow) (v : ℕ → Context × Ages) (n : ℕ) → table d v (suc n) (number_of d (v n).0) ≡ Present (join_into (v n).1 (table d v n (number_of d (v n).0)))
unfolding table
at_visit d v n = rw (eq-eqb (number_of d (v n).0) _ refl) refl

pub lies_visit : (d : Follow) (v : ℕ → Context × Ages) (n : ℕ) → LiesAt (v n).1 (table d v (suc n) (number_of d (v n).0))
lies_visit d v n = rw (at_visit d v n) (lies_join (v n).1 _)

pub lies_later : (d : Follow) (v : ℕ → Context × Ages) (n i : ℕ) (a : Ages) → LiesAt a (table d v n i) → LiesAt a (table d v (suc n) i)
unfolding table
lies_later d v n i a h = by_test d (λ e. LiesAt a e) (v n) i (table d v n i) (λ q. lies_joined (v n).1 a _ h) h

-- where the next visit lies in the table, it changes nothing
pub lies_earlier : (d : Follow) (v : ℕ → Context × Ages) (n i : ℕ) (a : Ages) → LiesAt (v n).1 (table d v n (number_of d (v n).0)) → LiesAt a (table d v (suc n) i) → LiesAt a (table d v n i)
unfolding table
lies_earlier d v n i a h = by_test d (λ e. LiesAt a e → LiesAt a (table d v n i)) (v n) i (table d v n i) (λ q. lies_before (v n).1 a _ (rw q at h)) (λ k. k)

pub small_table : (d : Follow) (m : ℕ) (v : ℕ → Context × Ages) → ((j : ℕ) → AreSmall m (v j).1) → (n i : ℕ) → IsSmallEntry m (table d v n i)
unfolding table
small_table d m v h zero i = tt
small_table d m v h (suc n) i = by_test d (λ e. IsSmallEntry m e) (v n) i (table d v n i) (λ q. small_join m (v n).1 _ (h n) (small_table d m v h n i)) (small_table d m v h n i)

-- how much the table of the first n visits holds
abbrev pub held : Follow → ℕ → (ℕ → Context × Ages) → ℕ → ℕ
held d m v n = total (contexts d) (λ i. rank m (table d v n i))

-- the most that a table can hold
abbrev pub most_held : Follow → ℕ → ℕ
most_held d m = total (contexts d) (λ i. 2 + m + m)

pub held_most : (d : Follow) (m : ℕ) (v : ℕ → Context × Ages) → ((j : ℕ) → AreSmall m (v j).1) → (n : ℕ) → held d m v n ≤ most_held d m
held_most d m v h n = total-more (contexts d) _ _ (λ i l. rank_most m _ (small_table d m v h n i))

rank_later : (d : Follow) (m : ℕ) (v : ℕ → Context × Ages) (n i : ℕ) → rank m (table d v n i) ≤ rank m (table d v (suc n) i)
unfolding table
rank_later d m v n i = by_test d (λ e. rank m (table d v n i) ≤ rank m e) (v n) i (table d v n i) (λ q. rank_more m (v n).1 _) (omega arith)

-- the next visit lies in the table, or the table holds more after it
pub lies_or_held : (d : Follow) (m : ℕ) (v : ℕ → Context × Ages) → ((j : ℕ) → AreSmall m (v j).1) → (n : ℕ) → number_of d (v n).0 < (contexts d)
    → LiesAt (v n).1 (table d v n (number_of d (v n).0)) ⊎ (held d m v n < held d m v (suc n))
lies_or_held d m v h n l = elim (lies_or_grows m (v n).1 (table d v n (number_of d (v n).0)) (h n) (small_table d m v h n (number_of d (v n).0))) [
  | inl lies ↦ inl lies
  | inr grows ↦ inr (total-grows (contexts d) _ _ (number_of d (v n).0) l (λ i k. rank_later d m v n i) (rw (at_visit d v n) grows))
]
