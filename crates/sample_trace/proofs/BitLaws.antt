-- The lowest 1 of a number, and what is left once it is cleared.
use Rattle.std.proofs.Common.{◌≡◌, ◌≢◌, ℕ, ◌+◌, ◌-◌, ◌*◌, ◌/◌, ◌%◌, ◌^◌, ◌<◌, ◌≤◌, sym, ap, ◌∙◌, inl, inr, bit_and, w32, arith}
use Rattle.std.specs.Int.{bit_at, trailing_zeros}
use Rattle.std.specs.Int.Bits.{and_self}
use Rattle.std.proofs.Math.Nat.{mod_self}
use Rattle.std.proofs.lemmas.Bool.{cases_lt}
use Rattle.std.proofs.lemmas.Nat.{pow_pos, pow_below, mod_below, shr_split, mod-pow-add, and_block, and_mask}
use Rattle.std.proofs.lemmas.Nat.Bits.{bit_at-zero, bit_at_cat_low, bit_at_cat_high, bit_at-trailing_zeros, same_from_bits_below}

-- no bit below p is set, so p zeros are there
low_zeros : (n p : ℕ) → ((j : ℕ) → j < p → bit_at n j ≡ 0) → n % 2 ^ p ≡ 0
low_zeros n p below =
    same_from_bits_below p (n % 2 ^ p) 0 (mod_below n (2 ^ p) (pow_pos p)) (pow_pos p)
    (λ i h. sym (bit_at_cat_low (n / 2 ^ p) p (n % 2 ^ p) i h) ∙ ap (λ x. bit_at x i) (shr_split n p) ∙ below i h ∙ sym (bit_at-zero i))

-- a number whose lowest 1 is at p: what is above it, and that 1
lowest_apart : (n p : ℕ) → bit_at n p ≡ 1 → ((j : ℕ) → j < p → bit_at n j ≡ 0) → n ≡ n / 2 ^ (1 + p) * 2 ^ (1 + p) + 2 ^ p
lowest_apart n p at below =
    let low : n % 2 ^ p ≡ 0 = low_zeros n p below in
    let split : n % 2 ^ (1 + p) ≡ bit_at n p * 2 ^ p + n % 2 ^ p = mod-pow-add n 1 p in
    let one : bit_at n p * 2 ^ p + n % 2 ^ p ≡ 2 ^ p = ap (λ x. x * 2 ^ p + n % 2 ^ p) at ∙ omega arith in
    sym (shr_split n (1 + p)) ∙ ap (λ x. n / 2 ^ (1 + p) * 2 ^ (1 + p) + x) (split ∙ one)

-- `n & (n - 1)` is what is above the lowest 1
cleared : (n p : ℕ) → bit_at n p ≡ 1 → ((j : ℕ) → j < p → bit_at n j ≡ 0) → bit_and n (n - 1) ≡ n / 2 ^ (1 + p) * 2 ^ (1 + p) + 0
cleared n p at below =
    let high : ℕ = n / 2 ^ (1 + p) in
    let apart : n ≡ high * 2 ^ (1 + p) + 2 ^ p = lowest_apart n p at below in
    let some : 0 < 2 ^ p = pow_pos p in
    let rest : n - 1 ≡ high * 2 ^ (1 + p) + (2 ^ p - 1) = omega arith in
    let wide : 2 ^ p < 2 ^ (1 + p) = pow_below p (1 + p) (omega arith) in
    ap (λ x. bit_and x (n - 1)) apart ∙ ap (bit_and (high * 2 ^ (1 + p) + 2 ^ p)) rest
    ∙ and_block (1 + p) high high (2 ^ p) (2 ^ p - 1) wide (omega arith)
    ∙ ap (λ x. x * 2 ^ (1 + p) + bit_and (2 ^ p) (2 ^ p - 1)) (and_self high)
    ∙ ap (λ x. high * 2 ^ (1 + p) + x) (and_mask (2 ^ p) p ∙ mod_self (2 ^ p))

pub cleared_low : (n p i : ℕ) → bit_at n p ≡ 1 → ((j : ℕ) → j < p → bit_at n j ≡ 0) → i ≤ p → bit_at (bit_and n (n - 1)) i ≡ 0
cleared_low n p i at below h =
    ap (λ x. bit_at x i) (cleared n p at below) ∙ bit_at_cat_low (n / 2 ^ (1 + p)) (1 + p) 0 i (omega arith) ∙ bit_at-zero i

pub cleared_high : (n p i : ℕ) → bit_at n p ≡ 1 → ((j : ℕ) → j < p → bit_at n j ≡ 0) → p < i → bit_at (bit_and n (n - 1)) i ≡ bit_at n i
cleared_high n p i at below h =
    let high : ℕ = n / 2 ^ (1 + p) in
    let beyond : 1 + p ≤ i = omega arith in
    ap (λ x. bit_at x i) (cleared n p at below) ∙ bit_at_cat_high high (1 + p) 0 i (pow_pos (1 + p)) beyond
    ∙ sym (ap (λ x. bit_at x i) (lowest_apart n p at below) ∙ bit_at_cat_high high (1 + p) (2 ^ p) i (pow_below p (1 + p) (omega arith)) beyond)

-- the lowest 1 is cleared, and every other bit stays
pub cleared_lowest : (n : ℕ) → 0 < n → n < 2 ^ 32 → bit_at (bit_and n (n - 1)) (trailing_zeros w32 n) ≡ 0
cleared_lowest n h f =
    let lowest = bit_at-trailing_zeros w32 n h f in
    cleared_low n (trailing_zeros w32 n) (trailing_zeros w32 n) lowest.1 lowest.2 (omega arith)

pub cleared_other : (n i : ℕ) → 0 < n → n < 2 ^ 32 → i ≢ trailing_zeros w32 n → bit_at (bit_and n (n - 1)) i ≡ bit_at n i
cleared_other n i h f other =
    let p : ℕ = trailing_zeros w32 n in
    let lowest = bit_at-trailing_zeros w32 n h f in
    elim (cases_lt i p) [
      | inl below ↦ cleared_low n p i lowest.1 lowest.2 (omega arith) ∙ sym (lowest.2 i below)
      | inr above ↦ cleared_high n p i lowest.1 lowest.2 (omega arith)
    ]
