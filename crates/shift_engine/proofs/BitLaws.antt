-- Where each bit of a shifted register comes from.
use Rattle.std.proofs.Common.{◌≡◌, ℕ, ◌+◌, ◌-◌, ◌*◌, ◌/◌, ◌%◌, ◌^◌, ◌<◌, ◌≤◌, true, false, nat_lt, cond, sym, ap, ◌∙◌, inl, inr, arith}
use Rattle.std.proofs.lemmas.Bool.{cases_lt, cond_below, cond_above}
use Rattle.std.proofs.lemmas.Nat.{pow_pos, shr_split, shr-shr, shr_below, mod_below}
use Rattle.std.proofs.lemmas.Nat.Bits.{bit_at_cat_low, bit_at_cat_high, bit_at_above, bit_at-zero}
use Rattle.std.proofs.Math.Nat.{add_comm}
use Rattle.std.specs.Int.{bit_at}
use Rattle.shift_engine.specs.Shift.{shifted_in, shifted_out}

-- The low n bits keep theirs.
bit_at-low : (word n i : ℕ) → i < n → bit_at (word % 2 ^ n) i ≡ bit_at word i
bit_at-low word n i inside =
    sym (bit_at_cat_low (word / 2 ^ n) n (word % 2 ^ n) i inside) ∙ ap (λ m. bit_at m i) (shr_split word n)

-- A word moved down.
bit_at-down : (word n i : ℕ) → bit_at (word / 2 ^ n) i ≡ bit_at word (n + i)
bit_at-down word n i = ap (λ m. m % 2) (shr-shr word n i)

-- A word above n bits.
bit_at-above_low : (high low n i : ℕ) → low < 2 ^ n → n ≤ i → bit_at (low + high * 2 ^ n) i ≡ bit_at high (i - n)
bit_at-above_low high low n i small up = ap (λ m. bit_at m i) (add_comm low (high * 2 ^ n)) ∙ bit_at_cat_high high n low i small up

bit_at-below_high : (high low n i : ℕ) → i < n → bit_at (low + high * 2 ^ n) i ≡ bit_at low i
bit_at-below_high high low n i inside = ap (λ m. bit_at m i) (add_comm low (high * 2 ^ n)) ∙ bit_at_cat_low high n low i inside

-- An IN to the right: the ISR comes down by n, and the source is above it.
pub bit_at-in_right : (isr source n i : ℕ) → isr < 2 ^ 32 → n ≤ 32 → i < 32 → bit_at (shifted_in isr source n true) i ≡ cond (nat_lt (i + n) 32) (bit_at isr (i + n)) (bit_at source (i + n - 32))
bit_at-in_right isr source n i word count inside =
    elim (cases_lt (i + n) 32) [
      | inl low ↦
          (let place : n + i ≡ i + n = omega arith in
          bit_at-below_high (source % 2 ^ n) (isr / 2 ^ n) (32 - n) i (omega arith) ∙ bit_at-down isr n i ∙ ap (bit_at isr) place) ∙ cond_below (i + n) 32 _ _ low
      | inr high ↦ cond_above (i + n) 32 _ _ _ high
          (let whole : (32 - n) + n ≡ 32 = omega arith in
          let split : 2 ^ ((32 - n) + n) ≡ 2 ^ 32 = ap (λ m. 2 ^ m) whole in
          let place : i - (32 - n) ≡ i + n - 32 = omega arith in
          let kept : isr / 2 ^ n < 2 ^ (32 - n) = shr_below isr (32 - n) n (omega arith) in
          bit_at-above_low (source % 2 ^ n) (isr / 2 ^ n) (32 - n) i kept (omega arith)
          ∙ bit_at-low source n (i - (32 - n)) (omega arith) ∙ ap (bit_at source) place)
    ]

-- An IN to the left: the ISR goes up by n, and the source is below it.
pub bit_at-in_left : (isr source n i : ℕ) → i < 32 → bit_at (shifted_in isr source n false) i ≡ cond (nat_lt i n) (bit_at source i) (bit_at isr (i - n))
bit_at-in_left isr source n i inside =
    let cut = bit_at-low (isr * 2 ^ n + source % 2 ^ n) 32 i inside in
    elim (cases_lt i n) [
      | inl low ↦
          cut ∙ bit_at_cat_low isr n (source % 2 ^ n) i low ∙ bit_at-low source n i low ∙ cond_below i n _ _ low
      | inr high ↦ cond_above i n _ _ _ high
          (cut ∙ bit_at_cat_high isr n (source % 2 ^ n) i (mod_below source (2 ^ n) (pow_pos n)) high)
    ]

-- An OUT to the right gives the low n bits.
pub bit_at-out_right : (osr n i : ℕ) → bit_at (shifted_out osr n true).0 i ≡ cond (nat_lt i n) (bit_at osr i) 0
bit_at-out_right osr n i =
    elim (cases_lt i n) [
      | inl low ↦ bit_at-low osr n i low ∙ cond_below i n _ _ low
      | inr high ↦ cond_above i n _ _ _ high
          (bit_at_above (osr % 2 ^ n) n i (mod_below osr (2 ^ n) (pow_pos n)) high)
    ]

-- The OSR comes down by n.
pub bit_at-rest_right : (osr n i : ℕ) → bit_at (shifted_out osr n true).1 i ≡ bit_at osr (i + n)
bit_at-rest_right osr n i = bit_at-down osr n i ∙ ap (bit_at osr) (omega arith)

-- An OUT to the left gives the high n bits.
pub bit_at-out_left : (osr n i : ℕ) → bit_at (shifted_out osr n false).0 i ≡ bit_at osr (i + (32 - n))
bit_at-out_left osr n i = bit_at-down osr (32 - n) i ∙ ap (bit_at osr) (omega arith)

-- The OSR goes up by n.
pub bit_at-rest_left : (osr n i : ℕ) → i < 32 → bit_at (shifted_out osr n false).1 i ≡ cond (nat_lt i n) 0 (bit_at osr (i - n))
bit_at-rest_left osr n i inside =
    let cut = bit_at-low (osr * 2 ^ n) 32 i inside in
    let whole : osr * 2 ^ n ≡ osr * 2 ^ n + 0 = omega arith in
    let moved = cut ∙ ap (λ m. bit_at m i) whole in
    elim (cases_lt i n) [
      | inl low ↦
          moved ∙ bit_at_cat_low osr n 0 i low ∙ bit_at-zero i ∙ cond_below i n _ _ low
      | inr high ↦ cond_above i n _ _ _ high
          (moved ∙ bit_at_cat_high osr n 0 i (pow_pos n) high)
    ]
