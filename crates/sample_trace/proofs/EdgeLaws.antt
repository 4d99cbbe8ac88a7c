-- Counts of edges, pin by pin and clock by clock.
use Rattle.std.proofs.Common.{◌≡◌, ℕ, zero, suc, ◌+◌, ◌-◌, ◌%◌, ◌^◌, ◌<◌, ◌≤◌, List, [], ◌∷◌, ◌++◌, length, cond, eqb, refl, sym, ap, ◌∙◌, subst, inl, inr, min, bit_and, bit_xor, w32, arith}
use Rattle.std.specs.Int.{bit_at, trailing_zeros}
use Rattle.std.specs.Prelude.{slice_index_or, slice_set, replicate}
use Rattle.std.proofs.lemmas.Bool.{cases_eq}
use Rattle.std.proofs.lemmas.Bool.Decides.{nat_tests}
use Rattle.std.proofs.lemmas.List.{get_or-set_same, get_or-set_other, get_or-replicate}
use Rattle.std.proofs.lemmas.Nat.Bits.{bit_at_xor, bit_at-lt, bit_at-zero, bit_at-trailing_zeros}
use Rattle.sample_trace.proofs.BitLaws.{cleared_lowest, cleared_other}
use Rattle.sample_trace.specs.Edges.{Counts, no_edges, HasGrown, HasCounted, edge_of, edges_in, levels_after, most}
use Rattle.sample_trace.specs.Told.{held_to, last_of}
use Rattle.block_core.specs.declared.sample.Sample.{Sample}

-- a bit differs exactly where its pin has an edge
differing : (x y : ℕ) → x < 2 → y < 2 → (x + y) % 2 ≡ cond (eqb x y) 0 1
differing x y h k = grind (arith, nat_tests)

pub changed_edge : (pin before level : ℕ) → bit_at (bit_xor before level) pin ≡ edge_of pin before level
changed_edge pin before level =
    bit_at_xor before level pin ∙ differing (bit_at before pin) (bit_at level pin) (bit_at-lt before pin) (bit_at-lt level pin)

-- a count that is set stays within the most, and so do the others
pub set_within : (xs : List ℕ) (k g p : ℕ) → k < length xs → g ≤ most → slice_index_or xs p 0 ≤ most → slice_index_or (slice_set xs k g) p 0 ≤ most
set_within xs k g p fits h was =
    elim (cases_eq p k) [
      | inl e ↦ subst (λ q. slice_index_or (slice_set xs k g) q 0 ≤ most) (sym e) (omega (arith, get_or-set_same xs k g 0 fits, h))
      | inr other ↦ omega (arith, get_or-set_other xs k p g 0 other, was)
    ]

-- what is counted for the lowest bit is no longer left, and the other pins stay as they were
pub counted_left : (xs : List ℕ) (n g p : ℕ) → 0 < n → n < 2 ^ 32 → trailing_zeros w32 n < length xs
    → g ≡ min (slice_index_or xs (trailing_zeros w32 n) 0 + 1) most
    → min (slice_index_or (slice_set xs (trailing_zeros w32 n) g) p 0 + bit_at (bit_and n (n - 1)) p) most ≡ min (slice_index_or xs p 0 + bit_at n p) most
counted_left xs n g p some fits long grown =
    let k : ℕ = trailing_zeros w32 n in
    let is_set : bit_at n k ≡ 1 = (bit_at-trailing_zeros w32 n some fits).1 in
    let P : ℕ → Type 0 = λ q. min (slice_index_or (slice_set xs k g) q 0 + bit_at (bit_and n (n - 1)) q) most ≡ min (slice_index_or xs q 0 + bit_at n q) most in
    elim (cases_eq p k) [
      | inl e ↦ subst P (sym e) (omega (arith, get_or-set_same xs k g 0 long, cleared_lowest n some fits, is_set, grown))
      | inr other ↦ omega (arith, get_or-set_other xs k p g 0 other, cleared_other n p some fits other)
    ]

-- once no bit is left, each count is all that it should be
pub uncounted_none : (count pin n all : ℕ) → n ≡ 0 → count ≤ most → min (count + bit_at n pin) most ≡ all → count ≡ all
uncounted_none count pin n all none within left =
    let zero : bit_at n pin ≡ 0 = ap (λ x. bit_at x pin) none ∙ bit_at-zero pin in
    omega arith

-- edges of samples in a row
pub edges-append : (pin before : ℕ) (xs ys : List Sample) → edges_in pin before (xs ++ ys) ≡ edges_in pin before xs + edges_in pin (levels_after before xs) ys
unfolding edges_in levels_after
edges-append pin before [] ys = omega arith
edges-append pin before (s ∷ xs) ys = let i = edges-append pin s.level xs ys in omega arith

-- the last sample repeated has no edges, and leaves its levels
pub repeated-levels : (n level : ℕ) (s : Sample) → s.level ≡ level → levels_after level (replicate n s) ≡ level
unfolding levels_after
repeated-levels zero level s e = refl
repeated-levels (suc n) level s e = repeated-levels n s.level s refl ∙ e

no_edge : (p k : ℕ) → edge_of p k k ≡ 0
no_edge p k = grind (arith, nat_tests)

pub repeated-edges : (pin n level : ℕ) (s : Sample) → s.level ≡ level → edges_in pin level (replicate n s) ≡ 0
unfolding edges_in
repeated-edges pin zero level s e = refl
repeated-edges pin (suc n) level s e =
    let i = repeated-edges pin n s.level s refl in
    let none : edge_of pin level s.level ≡ 0 = subst (λ k. edge_of pin k s.level ≡ 0) e (no_edge pin s.level) in
    omega arith

-- the levels after samples in a row
pub levels-append : (before : ℕ) (xs ys : List Sample) → levels_after before (xs ++ ys) ≡ levels_after (levels_after before xs) ys
unfolding levels_after
levels-append before [] ys = refl
levels-append before (s ∷ xs) ys = levels-append s.level xs ys

-- the last sample has the levels after all
pub last-levels : (s : Sample) (rest : List Sample) → (last_of s rest).level ≡ levels_after s.level rest
unfolding levels_after
last-levels s [] = refl
last-levels s (t ∷ rest) = last-levels t rest

last-levels-of : (before : ℕ) (s : Sample) (rest : List Sample) → (last_of s rest).level ≡ levels_after before (s ∷ rest)
unfolding levels_after
last-levels-of before s rest = last-levels s rest

-- samples that are held to a clock have the same edges and leave the same levels
pub held-edges : (pin before clock : ℕ) (l : List Sample) → edges_in pin before (held_to clock l) ≡ edges_in pin before l
held-edges pin before clock [] = refl
held-edges pin before clock (s ∷ rest) =
    let n = clock - length (s ∷ rest) in
    let none = repeated-edges pin n (levels_after before (s ∷ rest)) (last_of s rest) (last-levels-of before s rest) in
    let all = edges-append pin before (s ∷ rest) (replicate n (last_of s rest)) in
    all ∙ (omega arith)

pub held-levels : (before clock : ℕ) (l : List Sample) → levels_after before (held_to clock l) ≡ levels_after before l
held-levels before clock [] = refl
held-levels before clock (s ∷ rest) =
    let n = clock - length (s ∷ rest) in
    levels-append before (s ∷ rest) (replicate n (last_of s rest))
    ∙ repeated-levels n (levels_after before (s ∷ rest)) (last_of s rest) (last-levels-of before s rest)

pub begin_counted : (t : Counts) (levels : ℕ) → t ≡ no_edges levels → HasCounted levels [] t
unfolding edges_in levels_after
begin_counted t levels e = subst (HasCounted levels []) (sym e) (record {
  first = refl;
  last = refl;
  edges = λ pin low. get_or-replicate 32 pin 0 0 low;
})

pub held_counted : (t : Counts) (levels clock : ℕ) (l : List Sample) → HasCounted levels l t → HasCounted levels (held_to clock l) t
held_counted t levels clock l h = record {
  first = h.first;
  last = h.last ∙ sym (held-levels levels clock l);
  edges = λ pin low. h.edges pin low ∙ ap (λ n. min n most) (sym (held-edges pin levels clock l));
}

twice_least : (n e m : ℕ) → min (min n m + e) m ≡ min (n + e) m
twice_least n e m = grind arith

-- a sample with the last levels has no edges
pub same_counted : (t : Counts) (levels : ℕ) (l : List Sample) (s : Sample) → HasCounted levels l t → s.level ≡ t.last → HasCounted levels (l ++ s ∷ []) t
unfolding edges_in levels_after
same_counted t levels l s h same = record {
  first = h.first;
  last = sym same ∙ sym (levels-append levels l (s ∷ []));
  edges = λ pin low.
      let none : edge_of pin (levels_after levels l) s.level ≡ 0 = subst (λ k. edge_of pin k s.level ≡ 0) (same ∙ h.last) (no_edge pin s.level) in
      let all = edges-append pin levels l (s ∷ []) in
      let sum : edges_in pin levels l ≡ edges_in pin levels (l ++ s ∷ []) = omega arith in
      h.edges pin low ∙ ap (λ n. min n most) sum;
}

pub sample_counted : (t u : Counts) (levels : ℕ) (l : List Sample) (s : Sample) → HasCounted levels l t → u.first ≡ t.first → u.last ≡ s.level
    → HasGrown t.last s.level t.counts u.counts → HasCounted levels (l ++ s ∷ []) u
unfolding edges_in levels_after
sample_counted t u levels l s h first last grown = record {
  first = first ∙ h.first;
  last = last ∙ sym (levels-append levels l (s ∷ []));
  edges = λ pin low.
      let one : edge_of pin t.last s.level ≡ edge_of pin (levels_after levels l) s.level = ap (λ k. edge_of pin k s.level) h.last in
      let all = edges-append pin levels l (s ∷ []) in
      let sum : edges_in pin levels l + edge_of pin t.last s.level ≡ edges_in pin levels (l ++ s ∷ []) = omega arith in
      grown pin low ∙ ap (λ n. min (n + edge_of pin t.last s.level) most) (h.edges pin low)
      ∙ twice_least (edges_in pin levels l) (edge_of pin t.last s.level) most ∙ ap (λ n. min n most) sum;
}
