-- What the checked operations of i32 give is what the definitions say.
use Rattle.std.proofs.Common.{◌≡◌, ◌≢◌, ℤ, pos, negsuc, Bool, true, false, Option, Some, None, Ok, Err, FitsSigned, w32, ap, refl, cond, rules}
use Rattle.std.specs.Option.{SomeIff, ok_or}
use Rattle.pio_expr.specs.declared.fault.ValueKind.TheVariants.{Overflow}
use Rattle.std.specs.Int.{IsNonZero, CanDivide}
use Rattle.std.specs.Prelude.{zero, suc, int_div}
use Rattle.pio_expr.specs.Arithmetic.{in_32_bits, checked, quotient_of}

fits : (z : ℤ) → in_32_bits z ≡ true → FitsSigned w32 z
fits (pos n) h = search rules
fits (negsuc n) h = search rules

fits_only : (z : ℤ) → FitsSigned w32 z → in_32_bits z ≡ true
fits_only (pos n) h = search rules
fits_only (negsuc n) h = search rules

chosen : (b : Bool) (z : ℤ) (o : Option ℤ) → (b ≡ true → FitsSigned w32 z) → (FitsSigned w32 z → b ≡ true) → SomeIff o (FitsSigned w32 z) z → ok_or o Overflow ≡ cond b (Ok z) (Err Overflow)
chosen true z (Some x) f g h = ap (λ y. Ok y) h.1
chosen false z (Some x) f g h = absurd (search (rules, g h.0))
chosen true z None f g h = absurd (h (f refl))
chosen false z None f g h = refl

-- a checked operation with its one fault
pub checked_by : (o : Option ℤ) (z : ℤ) → SomeIff o (FitsSigned w32 z) z → ok_or o Overflow ≡ checked z
unfolding checked
checked_by o z h = chosen (in_32_bits z) z o (fits z) (fits_only z) h

some_of_both : (A B : Type 0) {T : Type 0} (o : Option T) (v : T) → A → SomeIff o (A × B) v → SomeIff o B v
some_of_both A B None v a h = λ b. h (a, b)
some_of_both A B (Some x) v a h = (h.0.1, h.1)

-- the quotient by a number that isn't 0
pub divided_by : (o : Option ℤ) (a b : ℤ) → IsNonZero w32 b → b ≢ pos 0 → SomeIff o (CanDivide w32 a b) (int_div a b) → ok_or o Overflow ≡ quotient_of a b
divided_by o a (pos zero) some other h = absurd (other refl)
divided_by o a (pos (suc n)) some other h = checked_by o (int_div a (pos (suc n))) (some_of_both _ _ o (int_div a (pos (suc n))) some h)
divided_by o a (negsuc n) some other h = checked_by o (int_div a (negsuc n)) (some_of_both _ _ o (int_div a (negsuc n)) some h)
