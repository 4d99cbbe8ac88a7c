-- That a write of pins may be made without asking whether it writes any.
use Rattle.std.proofs.Common.{◌≡◌, ℕ, ◌-◌, ◌^◌, ◌<◌, ◌≤◌, ◌==◌, ◌%◌, false, refl, subst, inl, inr, bit_and, bit_or, arith}
use Rattle.std.proofs.lemmas.Bool.{cases_eq}
use Rattle.std.proofs.lemmas.Bool.Decides.{nat_tests}
use Rattle.std.proofs.lemmas.Nat.Bits.{bit_at-zero, same_from_bits}
use Rattle.std.specs.Int.{bit_at}
use Rattle.std.specs.Int.Bits.{and_mask, or_zero_l}
use Rattle.pin_matrix.specs.Pins.{IsWrite, written}

-- a write of no pins has no bits
no_bits : (w : ℕ × ℕ) → IsWrite w → w.0 ≡ 0 → w.1 ≡ 0
no_bits w is none = same_from_bits w.1 0 (λ i. let within : bit_at w.1 i ≤ bit_at 0 i = subst (λ n. bit_at w.1 i ≤ bit_at n i) none (is.within i) in omega (arith, within, bit_at-zero i))

-- pins after it
pub masked : (pins : ℕ) (w : ℕ × ℕ) → pins < 2 ^ 32 → IsWrite w → bit_or w.1 (bit_and pins (2 ^ 32 - 1 - w.0)) ≡ written pins w
masked pins w fits is = elim (cases_eq w.0 0) [
  | inl none ↦ rw (none, no_bits w is none, and_mask pins 32, or_zero_l (pins % 2 ^ 32)) (omega arith)
  | inr some ↦ let more : (w.0 == 0) ≡ false = grind (arith, nat_tests) in rw more refl
]
