-- What the types of a setup keep, of numbers that are brought into range.
use Rattle.std.specs.Prelude.{◌≡◌, ℕ, ◌+◌, ◌-◌, ◌%◌, ◌^◌, ◌<◌, ◌≤◌, min, ◌==◌, ◌||◌, ◌&&◌, not, cond, if◌then◌else◌, Bool, true, false, Option, Some, None, List, [], ◌∷◌, length, refl}
use Rattle.std.proofs.Common.{arith, lit<, lit≤}
use Rattle.std.specs.Option.{ForSome}
use Rattle.std.proofs.Math.Nat.{zero-lt-suc, min-le_right, le_trans, add-le-add}
use Rattle.std.proofs.lemmas.Nat.{mod_below}
use Rattle.pin_matrix.specs.Spans.{underscore, is_span_name}
use Rattle.pin_matrix.proofs.Greatest.{of_some, of_none}
use Rattle.setup_keys.specs.Clipped.{bits_of, clipped_least, clipped_most, formed}
use Rattle.setup_keys.specs.Rule.{most_bits}

-- a number brought below 4
pub below_4 : (n : ℕ) → n % 4 < 4
below_4 n = mod_below n 4 (lit< tt)

-- a number brought below 16
pub below_16 : (n : ℕ) → n % 16 < 16
below_16 n = mod_below n 16 (lit< tt)

-- a number brought below 32
pub below_32 : (n : ℕ) → n % 32 < 32
below_32 n = mod_below n 32 (lit< tt)

-- a number brought below 2 ^ 24
pub below_24_bits : (n : ℕ) → n % 2 ^ 24 < 2 ^ 24
below_24_bits n = mod_below n (2 ^ 24) (lit< tt)

-- a greatest bound brought below 2 ^ 24
pub most_fits : (most : Option ℕ) → ForSome (clipped_most most) (λ m. m < 2 ^ 24)
most_fits None = of_none (λ m. m < 2 ^ 24)
most_fits (Some n) = of_some (λ m. m < 2 ^ 24) (n % 2 ^ 24) (below_24_bits n)

-- a least bound brought below it
pub least_fits : (least : ℕ) (most : Option ℕ) → clipped_least least most < 2 ^ 24
least_fits least None = below_24_bits least
least_fits least (Some n) = omega (arith, min-le_right least (n % 2 ^ 24), below_24_bits n)

-- and to the greatest at most
pub least_at_most : (least : ℕ) (most : Option ℕ) → ForSome (clipped_most most) (λ m. clipped_least least most ≤ m)
least_at_most least None = of_none (λ m. clipped_least least None ≤ m)
least_at_most least (Some n) = of_some (λ m. clipped_least least (Some n) ≤ m) (n % 2 ^ 24) (min-le_right least (n % 2 ^ 24))

-- a number brought to this one at most
pub at_most : (n most : ℕ) → min n most ≤ most
at_most n most = min-le_right n most

-- SET writes five pins at most
pub five_at_most : (count : ℕ) → min count 5 ≤ 5
five_at_most count = min-le_right count 5

-- five pins are in a mapping's range
pub at_most_32 : (count : ℕ) → min count 5 ≤ 32
at_most_32 count = le_trans (min-le_right count 5) (lit≤ tt)

-- a divider of 0 has no fraction
pub divides_at : (whole : Bool) (frac : ℕ) → (not whole || cond whole 0 frac == 0) ≡ true
divides_at true frac = refl
divides_at false frac = refl

-- no machine's FIFOs are joined both ways
pub joins_at : (tx rx : Bool) → not (tx && (rx && not tx)) ≡ true
joins_at true true = refl
joins_at true false = refl
joins_at false rx = refl

-- it is 1 at least
pub some_bits : (n : ℕ) → 1 ≤ bits_of n
some_bits n = zero-lt-suc ((n - 1) % 32)

-- it is 32 at most
pub few_bits : (n : ℕ) → bits_of n ≤ 32
few_bits n = mod_below (n - 1) 32 (lit< tt)

-- a span in clocks has no named stalls
pub ticks_at : (ticks : Bool) (stalls : List ℕ) → (ticks || length (cond ticks stalls []) == 0) ≡ true
ticks_at true stalls = refl
ticks_at false stalls = refl

-- it has the form, whether the name had it or not
formed_at : (has : Bool) (name : List ℕ) → is_span_name name ≡ has → is_span_name (cond has name (underscore ∷ [])) ≡ true
formed_at true name is = is
formed_at false name is = refl

-- it has the form
pub has_form : (name : List ℕ) → is_span_name (formed name) ≡ true
has_form name = formed_at (is_span_name name) name refl

-- bits that are brought into range fit, with an enable bit and without one
pub bits_fit : (bits : ℕ) (opt : Bool) → min bits (most_bits opt) + (if opt then 1 else 0) ≤ 5
bits_fit bits true = add-le-add {c = 1} {d = 1} (min-le_right bits 4) (lit≤ tt)
bits_fit bits false = add-le-add {c = 0} {d = 0} (min-le_right bits 5) (lit≤ tt)
