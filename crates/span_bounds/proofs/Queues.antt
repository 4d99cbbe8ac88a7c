-- The numbers of a heap's pairs.
use Rattle.std.proofs.Common.{◌≡◌, ℕ, zero, suc, ◌+◌, ◌<◌, List, [], ◌∷◌, map, length, slice_index_or, refl, sym, ap, ◌∙◌, inl, inr, arith}
use Rattle.std.specs.List.{Contains}
use Rattle.std.specs.List.Sorted.{IsPermutation}
use Rattle.std.proofs.lemmas.List.Sorted.{Contains-permutation, length_permutation, IsPermutation-sym}
use Rattle.span_bounds.specs.Edges.{Among}
use Rattle.span_bounds.specs.Queues.{IsMore}

abbrev numbers : List (ℕ × ℕ) → List ℕ
numbers xs = map (λ (p : ℕ × ℕ). p.1) xs

among_from : (i : ℕ) (xs : List (ℕ × ℕ)) → Among i (numbers xs) → (c : ℕ × ℕ) × (Contains xs c × (c.1 ≡ i))
among_from i [] h = absurd h
among_from i (x ∷ xs) (inl e) = (x, ((0, omega arith, refl), sym e))
among_from i (x ∷ xs) (inr h) = let r = among_from i xs h in (r.0, ((suc r.1.0.0, omega (arith, r.1.0.1), r.1.0.2), r.1.1))

among_at : (i k : ℕ) (xs : List (ℕ × ℕ)) (c : ℕ × ℕ) → k < length xs → slice_index_or xs k c ≡ c → c.1 ≡ i → Among i (numbers xs)
among_at i k [] c l q e = absurd (omega arith)
among_at i zero (x ∷ xs) c l q e = inl (sym e ∙ ap (λ (p : ℕ × ℕ). p.1) (sym q))
among_at i (suc k) (x ∷ xs) c l q e = inr (among_at i k xs c (omega arith) q e)

among_to : (i : ℕ) (xs : List (ℕ × ℕ)) (c : ℕ × ℕ) → Contains xs c → c.1 ≡ i → Among i (numbers xs)
among_to i xs c h e = among_at i h.0 xs c h.1 h.2 e

length_numbers : (xs : List (ℕ × ℕ)) → length (numbers xs) ≡ length xs
length_numbers [] = refl
length_numbers (x ∷ xs) = ap suc (length_numbers xs)

pub no_numbers : (ns : List ℕ) → length ns ≡ 0 → ns ≡ []
no_numbers [] e = refl
no_numbers (n ∷ ns) e = absurd (omega arith)

-- the numbers of pairs with one more
pub more_of : (x : ℕ × ℕ) (xs ys : List (ℕ × ℕ)) → IsPermutation (x ∷ xs) ys → IsMore x.1 (numbers xs) (numbers ys)
more_of x xs ys p = record {
  size = length_numbers ys ∙ (length_permutation (x ∷ xs) ys p ∙ (one_more ∙ ap (λ n. n + 1) (sym (length_numbers xs))));
  of_these = λ i h. let r = among_from i ys h in among_to i (x ∷ xs) r.0 (Contains-permutation ys (x ∷ xs) r.0 (IsPermutation-sym (x ∷ xs) ys p) r.1.0) r.1.1;
  all = λ i h. let r = among_from i (x ∷ xs) h in among_to i ys r.0 (Contains-permutation (x ∷ xs) ys r.0 p r.1.0) r.1.1;
} where
  one_more : length (x ∷ xs) ≡ length xs + 1
  one_more = omega arith
