-- A decimal number of one digit or two.
use Rattle.std.proofs.Common.{◌≡◌, ℕ, ◌+◌, ◌/◌, ◌%◌, ◌<◌, ◌≤◌, false, [], ◌∷◌, decimal, arith, refl}
use Rattle.std.proofs.lemmas.Bool.Decides.{nat_tests}
use Rattle.std.specs.Fmt.{digit_glyph}
use Rattle.std.proofs.lemmas.Fmt.{decimal_digit, decimal_step}

-- a decimal digit's glyph
glyph_is : (d : ℕ) → d < 10 → digit_glyph false d ≡ 48 + d
glyph_is d h = grind (arith, nat_tests)

-- a number of one digit
pub one_digit : (n : ℕ) → n < 10 → decimal n ≡ digit_glyph false n ∷ []
one_digit n h = rw (glyph_is n h, decimal_digit n h) refl

-- a number of two digits
pub two_digits : (n : ℕ) → 10 ≤ n → n < 100 → decimal n ≡ digit_glyph false (n / 10) ∷ digit_glyph false (n % 10) ∷ []
two_digits n low high =
    let tens : n / 10 < 10 = omega arith in
    let ones : n % 10 < 10 = omega arith in
    rw (glyph_is (n / 10) tens, glyph_is (n % 10) ones, decimal_step n low (omega arith), decimal_digit (n / 10) tens) refl
