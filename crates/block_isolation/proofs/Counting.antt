-- How many of the first n bits are 1.
use Rattle.std.proofs.Common.{◌≡◌, ◌∙◌, ℕ, zero, suc, ◌+◌, ◌<◌, ◌≤◌, Bool, true, false, refl, sym, ap, inl, inr, arith}
use Rattle.std.proofs.lemmas.Bool.{cases_lt}
use Rattle.block_shares.specs.Acts.{has}

one_if : Bool → ℕ
one_if true = 1
one_if false = 0

pub count : (n set : ℕ) → ℕ
count zero set = 0
count (suc n) set = count n set + one_if (has set n)

-- of two sets, one holds the other's first n
abbrev pub Within : (n a b : ℕ) → Type 0
Within n a b = (i : ℕ) → i < n → has a i ≡ true → has b i ≡ true

one_if-le : (b : Bool) → one_if b ≤ 1
unfolding one_if
one_if-le true = omega arith
one_if-le false = omega arith

pub count-le : (n set : ℕ) → count n set ≤ n
unfolding count
count-le zero set = omega arith
count-le (suc n) set = let h = count-le n set in let k = one_if-le (has set n) in omega (arith, h, k)

one_if-more : (a b : Bool) → (a ≡ true → b ≡ true) → one_if a ≤ one_if b
unfolding one_if
one_if-more true b h = rw (h refl) (omega arith)
one_if-more false b h = omega arith

pub count_more : (n a b : ℕ) → Within n a b → count n a ≤ count n b
unfolding count
count_more zero a b h = omega arith
count_more (suc n) a b h =
    let before = count_more n a b (λ i k. h i (omega (arith, k))) in
    let here = one_if-more (has a n) (has b n) (h n (omega arith)) in
    omega (arith, before, here)

one_if-same : (a b : Bool) → one_if b ≤ one_if a → b ≡ true → a ≡ true
unfolding one_if
one_if-same true b h k = refl
one_if-same false true h k = absurd (omega (arith, h))
one_if-same false false h k = k

-- no more bits: the same bits
pub count_same : (n a b : ℕ) → Within n a b → count n b ≤ count n a → Within n b a
unfolding count
count_same zero a b h fewer i inside k = absurd (omega arith)
count_same (suc n) a b h fewer i inside k =
    let h' : Within n a b = λ j p. h j (omega (arith, p)) in
    let before : count n a ≤ count n b = count_more n a b h' in
    let here : one_if (has a n) ≤ one_if (has b n) = one_if-more (has a n) (has b n) (h n (omega arith)) in
    elim (cases_lt i n) [
      | inl low ↦ count_same n a b h' (omega (arith, fewer, before, here)) i low k
      | inr high ↦
          let e : i ≡ n = omega arith in
          let k' : has b n ≡ true = ap (λ (j : ℕ). has b j) (sym e) ∙ k in
          ap (λ (j : ℕ). has a j) e ∙ one_if-same (has a n) (has b n) (omega (arith, fewer, before, here)) k'
    ]

pub count_some : (n set i : ℕ) → i < n → has set i ≡ true → 1 ≤ count n set
unfolding count one_if
count_some zero set i inside h = absurd (omega arith)
count_some (suc n) set i inside h =
    elim (cases_lt i n) [
      | inl low ↦ let before = count_some n set i low h in omega (arith, before)
      | inr high ↦
          let e : n ≡ i = omega arith in
          let k : has set n ≡ true = ap (λ (j : ℕ). has set j) e ∙ h in rw k (omega arith)
    ]
