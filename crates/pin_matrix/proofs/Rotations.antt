-- Where each bit of a word turned round, and of its low bits, comes from.
use Rattle.std.proofs.Common.{◌≡◌, ℕ, ◌+◌, ◌-◌, ◌*◌, ◌/◌, ◌%◌, ◌^◌, ◌<◌, ◌≤◌, nat_lt, cond, sym, ap, ◌∙◌, inl, inr, arith}
use Rattle.std.proofs.lemmas.Bool.{cases_lt, cond_below, cond_above}
use Rattle.std.proofs.lemmas.Nat.{pow_pos, shr_split, shr-shr, shr_below, mod_below}
use Rattle.std.proofs.lemmas.Nat.Bits.{bit_at_cat_low, bit_at_cat_high, bit_at_above}
use Rattle.std.proofs.Math.Nat.{add_comm}
use Rattle.std.specs.Int.{bit_at}
use Rattle.pin_matrix.specs.Pins.{rotated_right}
use Rattle.pin_matrix.proofs.Bounds.{joined-lt}

-- the low n bits keep theirs
bit_at-low : (word n i : ℕ) → i < n → bit_at (word % 2 ^ n) i ≡ bit_at word i
bit_at-low word n i inside =
    sym (bit_at_cat_low (word / 2 ^ n) n (word % 2 ^ n) i inside) ∙ ap (λ m. bit_at m i) (shr_split word n)

-- a word moved down
bit_at-down : (word n i : ℕ) → bit_at (word / 2 ^ n) i ≡ bit_at word (n + i)
bit_at-down word n i = ap (λ m. m % 2) (shr-shr word n i)

bit_at-above_low : (high low n i : ℕ) → low < 2 ^ n → n ≤ i → bit_at (low + high * 2 ^ n) i ≡ bit_at high (i - n)
bit_at-above_low high low n i small up = ap (λ m. bit_at m i) (add_comm low (high * 2 ^ n)) ∙ bit_at_cat_high high n low i small up

bit_at-below_high : (high low n i : ℕ) → i < n → bit_at (low + high * 2 ^ n) i ≡ bit_at low i
bit_at-below_high high low n i inside = ap (λ m. bit_at m i) (add_comm low (high * 2 ^ n)) ∙ bit_at_cat_low high n low i inside

-- Turned right by n, bit p is the one n places up, counted on from 31 to 0.
pub bit_at-rotated_right : (word n p : ℕ) → word < 2 ^ 32 → n ≤ 32 → p < 32 → bit_at (rotated_right word n) p ≡ bit_at word ((p + n) % 32)
bit_at-rotated_right word n p below turn inside =
    elim (cases_lt (p + n) 32) [
      | inl low ↦
          let place : n + p ≡ (p + n) % 32 = omega arith in
          bit_at-below_high (word % 2 ^ n) (word / 2 ^ n) (32 - n) p (omega arith) ∙ bit_at-down word n p ∙ ap (bit_at word) place
      | inr high ↦
          let whole : (32 - n) + n ≡ 32 = omega arith in
          let split : 2 ^ ((32 - n) + n) ≡ 2 ^ 32 = ap (λ m. 2 ^ m) whole in
          let kept : word / 2 ^ n < 2 ^ (32 - n) = shr_below word (32 - n) n (omega arith) in
          let place : p - (32 - n) ≡ (p + n) % 32 = omega arith in
          bit_at-above_low (word % 2 ^ n) (word / 2 ^ n) (32 - n) p kept (omega arith)
          ∙ bit_at-low word n (p - (32 - n)) (omega arith) ∙ ap (bit_at word) place
    ]

-- Counted from a base, bit i is the one that is i places on from it.
pub bit_at-counted : (word base i : ℕ) → word < 2 ^ 32 → base < 32 → i < 32 → bit_at (rotated_right word base) i ≡ bit_at word ((base + i) % 32)
bit_at-counted word base i below turn inside =
    bit_at-rotated_right word base i below (omega arith) inside ∙ ap (λ m. bit_at word (m % 32)) (add_comm i base)

-- A word turned round is a word.
pub rotated_right-lt : (word n : ℕ) → word < 2 ^ 32 → n ≤ 32 → rotated_right word n < 2 ^ 32
rotated_right-lt word n below turn = joined-lt word (word % 2 ^ n) n below turn (mod_below word (2 ^ n) (pow_pos n))

-- The low n bits of a word.
pub bit_at-mod : (word n i : ℕ) → bit_at (word % 2 ^ n) i ≡ cond (nat_lt i n) (bit_at word i) 0
bit_at-mod word n i =
    elim (cases_lt i n) [
      | inl low ↦ bit_at-low word n i low ∙ cond_below i n _ _ low
      | inr high ↦ cond_above i n _ _ _ high
          (bit_at_above (word % 2 ^ n) n i (mod_below word (2 ^ n) (pow_pos n)) high)
    ]
