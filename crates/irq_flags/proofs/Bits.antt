-- What a clock that lowers and raises flags does to one of them.
use Rattle.std.proofs.Common.{◌≡◌, ℕ, ◌-◌, ◌^◌, ◌<◌, min, max, cond, eqb, ap, ◌∙◌, inl, inr, arith, w8}
use Rattle.std.proofs.lemmas.Bool.{cases_eq}
use Rattle.std.proofs.lemmas.Bool.Decides.{nat_tests}
use Rattle.std.proofs.lemmas.Nat.Bits.{bit_at_and, bit_at_or, bit_at_not, bit_at-zero, bit_at-lt}
use Rattle.std.specs.Int.{bit_at}
use Rattle.irq_flags.specs.Flags.{lowered_flags, merged_flags, merged_flag}

-- On bits, the larger of the raised one and what is left of the old one is the flag after the clock.
chosen : (set clear up : ℕ) → set < 2 → clear < 2 → up < 2 → max set (min up (1 - clear)) ≡ cond (eqb set 1) 1 (cond (eqb clear 1) 0 up)
chosen set clear up p q r = grind (arith, nat_tests)

-- A flag that is lowered is down, and another one stays.
bit_at-lowered_flags : (up clears i : ℕ) → clears < 2 ^ 8 → i < 8 → bit_at (lowered_flags up clears) i ≡ min (bit_at up i) (1 - bit_at clears i)
bit_at-lowered_flags up clears i below inside =
    let masked = bit_at_and up (2 ^ 8 - 1 - clears) i ∙ ap (min (bit_at up i)) (bit_at_not w8 clears i below inside) in
    let bit = bit_at-lt up i in
    elim (cases_eq clears 0) [
      | inl none ↦ rw none (rw (bit_at-zero i) (omega arith))
      | inr some ↦ grind (arith, nat_tests)
    ]

-- Flag by flag, a clock leaves what it is to leave.
pub bit_at-merged_flags : (up clears sets i : ℕ) → clears < 2 ^ 8 → i < 8 → bit_at (merged_flags up clears sets) i ≡ merged_flag up clears sets i
bit_at-merged_flags up clears sets i below inside =
    bit_at_or sets (lowered_flags up clears) i
    ∙ ap (max (bit_at sets i)) (bit_at-lowered_flags up clears i below inside)
    ∙ chosen (bit_at sets i) (bit_at clears i) (bit_at up i) (bit_at-lt sets i) (bit_at-lt clears i) (bit_at-lt up i)
