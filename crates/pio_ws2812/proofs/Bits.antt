-- The bits of a word, from the top one down, and what a shift to the left leaves of them.
use Rattle.std.proofs.Common.{◌≡◌, ◌==◌, ℕ, zero, suc, ◌+◌, ◌-◌, ◌*◌, ◌/◌, ◌%◌, ◌^◌, ◌<◌, cond, [], ◌∷◌, length, refl, sym, ap, ◌∙◌, arith}
use Rattle.std.specs.Int.{bit_at}
use Rattle.std.proofs.lemmas.Nat.Bits.{bit_at-suc, bit_at_cat_low}
use Rattle.pin_matrix.specs.Pins.{is_high}
use Rattle.pio_ws2812.specs.Sending.{bits_down, word_bits}

pub one_more : (w place n : ℕ) → bits_down w place (suc n) ≡ is_high w (31 - place) ∷ bits_down w (place + 1) n
unfolding bits_down
one_more w place n = refl

pub none : (w place : ℕ) → bits_down w place 0 ≡ []
unfolding bits_down
none w place = refl

pub word_bits-is : (w : ℕ) → word_bits w ≡ bits_down w 0 24
unfolding word_bits
word_bits-is w = refl

pub length-bits_down : (w place n : ℕ) → length (bits_down w place n) ≡ n
length-bits_down w place zero = ap length (none w place)
length-bits_down w place (suc n) = ap length (one_more w place n) ∙ ap suc (length-bits_down w (place + 1) n)

-- a shift by one bit
lower_half : (w : ℕ) → w * 2 % 2 ^ 32 / 2 ≡ w % 2 ^ 31
lower_half w = omega arith

shifted_bit : (w i : ℕ) → i < 31 → bit_at (w * 2 % 2 ^ 32) (suc i) ≡ bit_at w i
shifted_bit w i h =
    bit_at-suc (w * 2 % 2 ^ 32) i ∙ ap (λ k. bit_at k i) (lower_half w)
    ∙ sym (bit_at_cat_low (w / 2 ^ 31) 31 (w % 2 ^ 31) i h) ∙ ap (λ k. bit_at k i) (let e : w / 2 ^ 31 * 2 ^ 31 + w % 2 ^ 31 ≡ w = omega arith in e)

pub bits_down-shift : (w place n : ℕ) → place + n < 32 → bits_down (w * 2 % 2 ^ 32) place n ≡ bits_down w (place + 1) n
bits_down-shift w place zero h = none (w * 2 % 2 ^ 32) place ∙ sym (none w (place + 1))
bits_down-shift w place (suc n) h =
    one_more (w * 2 % 2 ^ 32) place n
    ∙ ap (λ i. is_high (w * 2 % 2 ^ 32) i ∷ bits_down (w * 2 % 2 ^ 32) (place + 1) n) (let e : 31 - place ≡ suc (31 - (place + 1)) = omega (arith, h) in e)
    ∙ ap (λ b. (b == 1) ∷ bits_down (w * 2 % 2 ^ 32) (place + 1) n) (shifted_bit w (31 - (place + 1)) (omega arith))
    ∙ ap (λ bs. is_high w (31 - (place + 1)) ∷ bs) (bits_down-shift w (place + 1) n (omega (arith, h)))
    ∙ sym (one_more w (place + 1) n)

-- the top bit as a number

pub top_bit : (w : ℕ) → w < 2 ^ 32 → w / 2 ^ 31 ≡ cond (is_high w 31) 1 0
top_bit w h = by (w / 2 ^ 31) (omega (arith, h)) where
  by : (k : ℕ) → k < 2 → k ≡ cond (k % 2 == 1) 1 0
  by zero l = refl
  by (suc zero) l = refl
  by (suc (suc k)) l = absurd (omega (arith, l))
