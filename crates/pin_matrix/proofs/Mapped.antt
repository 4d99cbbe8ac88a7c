-- What a mapped value writes, pin by pin.
use Rattle.std.proofs.Common.{◌≡◌, ℕ, ◌+◌, ◌-◌, ◌%◌, ◌^◌, ◌<◌, ◌≤◌, nat_lt, cond, if◌then◌else◌, ap, ◌∙◌, inl, inr, arith}
use Rattle.std.proofs.lemmas.Bool.{cases_lt}
use Rattle.std.proofs.lemmas.Bool.Decides.{nat_tests}
use Rattle.std.proofs.lemmas.Nat.Bits.{bit_at_ones, bit_at_above, bit_at-lt}
use Rattle.std.proofs.lemmas.Nat.{mod_below, pow_pos}
use Rattle.std.proofs.Math.Pow.{pow_mono}
use Rattle.std.specs.Int.{bit_at}
use Rattle.pin_matrix.specs.Pins.{rotated_right, writes_of, place_of, IsWrite}
use Rattle.pin_matrix.specs.declared.mapping.Mapping.{Mapping}
use Rattle.pin_matrix.proofs.Rotations.{bit_at-rotated_right, rotated_right-lt, bit_at-mod}

-- the low bits of a number are a word
low-lt : (value n : ℕ) → n ≤ 32 → value % 2 ^ n < 2 ^ 32
low-lt value n few =
    let low : value % 2 ^ n < 2 ^ n = mod_below value (2 ^ n) (pow_pos n) in
    let power : 2 ^ n ≤ 2 ^ 32 = pow_mono few in
    omega (arith, low, power)

-- a pin counts from 32 less the base, turned right
turned_place : (base p : ℕ) → base < 32 → (p + (32 - base)) % 32 ≡ (p + 32 - base) % 32
turned_place base p inside = let e : p + (32 - base) ≡ p + 32 - base = omega arith in ap (λ m. m % 32) e

-- the bit of a mapped value at a pin
bit_at-turned : (m : Mapping) (value p : ℕ) → p < 32 → bit_at (rotated_right (value % 2 ^ m.count) (32 - m.base)) p ≡ cond (nat_lt (place_of m p) m.count) (bit_at value (place_of m p)) 0
bit_at-turned m value p inside =
    bit_at-rotated_right (value % 2 ^ m.count) (32 - m.base) p (low-lt value m.count m.count_fits) (omega arith) inside
    ∙ ap (bit_at (value % 2 ^ m.count)) (turned_place m.base p m.base_is_a_pin)
    ∙ bit_at-mod value m.count (place_of m p)

ones : (i n : ℕ) → i < 32 → cond (nat_lt i n) (bit_at (2 ^ 32 - 1) i) 0 ≡ cond (nat_lt i n) 1 0
ones i n inside = ap (λ b. cond (nat_lt i n) b 0) (bit_at_ones 32 i inside)

place-lt : (m : Mapping) (p : ℕ) → place_of m p < 32
place-lt m p = omega arith

-- The pins that are written.
pub bit_at-mapped_pins : (m : Mapping) (value p : ℕ) → p < 32 → bit_at (writes_of m value).0 p ≡ (if nat_lt (place_of m p) m.count then 1 else 0)
bit_at-mapped_pins m value p inside = bit_at-turned m (2 ^ 32 - 1) p inside ∙ ones (place_of m p) m.count (place-lt m p)

-- The bits that they get.
pub bit_at-mapped_bits : (m : Mapping) (value p : ℕ) → p < 32 → bit_at (writes_of m value).1 p ≡ (if nat_lt (place_of m p) m.count then bit_at value (place_of m p) else 0)
bit_at-mapped_bits = bit_at-turned

-- a bit that is there only under a test is no more than the test
under-test : (i n b : ℕ) → b < 2 → cond (nat_lt i n) b 0 ≤ cond (nat_lt i n) 1 0
under-test i n b bit = grind (arith, nat_tests)

-- It is a write, whatever the value.
pub IsWrite-writes_of : (m : Mapping) (value : ℕ) → IsWrite (writes_of m value)
IsWrite-writes_of m value =
    let pins : (writes_of m value).0 < 2 ^ 32 = rotated_right-lt ((2 ^ 32 - 1) % 2 ^ m.count) (32 - m.base) (low-lt (2 ^ 32 - 1) m.count m.count_fits) (omega arith) in
    let bits : (writes_of m value).1 < 2 ^ 32 = rotated_right-lt (value % 2 ^ m.count) (32 - m.base) (low-lt value m.count m.count_fits) (omega arith) in
    record {
      pins = pins;
      bits = bits;
      within = λ p. elim (cases_lt p 32) [
        | inl inside ↦ rw (bit_at-mapped_pins m value p inside, bit_at-mapped_bits m value p inside)
            (under-test (place_of m p) m.count (bit_at value (place_of m p)) (bit_at-lt value (place_of m p)))
        | inr outside ↦ omega (arith, bit_at_above (writes_of m value).1 32 p bits outside)
      ];
    }
