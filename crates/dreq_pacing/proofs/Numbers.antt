-- A number that is cut off past every range stays so with more digits.
use Rattle.std.proofs.Common.{◌≡◌, ℕ, ◌^◌, ◌+◌, ◌*◌, ◌<◌, ◌≤◌, min, length, get_or, drop, Option, Some, None, List, [], ◌∷◌, refl, sym, ap, ◌∙◌, inl, inr, arith, nat_le, cond, Bool, true, false, ◌&&◌}
use Rattle.std.specs.Prelude.{option_map, option_and_then, is_some}
use Rattle.std.proofs.lemmas.List.{at_drop_more}
use Rattle.std.proofs.lemmas.Bool.{cases_lt}
use Rattle.std.proofs.lemmas.Bool.Decides.{nat_tests}
use Rattle.std.proofs.lemmas.Nat.{mul-le}
use Rattle.std.proofs.lemmas.Grind.{pow_more}
use Rattle.std.proofs.Math.Nat.{pow-le-pow_right}
use Rattle.byte_lines.specs.Bytes.{digit_of}
use Rattle.dreq_pacing.specs.Number.{number_from, capped, within}

-- one more digit
more : (base a b d : ℕ) → 1 ≤ base → capped a ≡ capped b → capped (a * base + d) ≡ capped (b * base + d)
more base a b d some e =
    elim (cases_lt a 1000000000001) [
      | inl lt ↦ (let same : a ≡ b = omega arith in ap (λ n. capped (n * base + d)) same)
      | inr ge ↦ (
          let up : a * 1 ≤ a * base = mul-le a 1 a base (omega arith) some in
          let other : b * 1 ≤ b * base = mul-le b 1 b base (omega arith) some in
          omega arith)
    ]

step : (base a b : ℕ) (o : Option ℕ) (bs : List ℕ) → ((x y : ℕ) → capped x ≡ capped y → option_map capped (number_from base x bs) ≡ option_map capped (number_from base y bs)) → 1 ≤ base → capped a ≡ capped b → option_map capped (option_and_then (λ d. number_from base (a * base + d) bs) o) ≡ option_map capped (option_and_then (λ d. number_from base (b * base + d) bs) o)
step base a b None bs h some e = refl
step base a b (Some d) bs h some e = h (a * base + d) (b * base + d) (more base a b d some e)

pub number_from-capped : (base a b : ℕ) (bs : List ℕ) → 1 ≤ base → capped a ≡ capped b → option_map capped (number_from base a bs) ≡ option_map capped (number_from base b bs)
number_from-capped base a b [] some e = ap (λ (n : ℕ). Some n) e
number_from-capped base a b (c ∷ cs) some e =
    step base a b (digit_of base c) cs (λ x y h. number_from-capped base x y cs some h) some e

-- one more of the digits
pub digit_step : (base value n i d : ℕ) (digits : List ℕ) (all : Option ℕ) → i < length digits → digit_of base (get_or digits i 0) ≡ Some d → n ≡ min (value * base + d) 1000000000001 → 1 ≤ base → option_map capped (number_from base value (drop i digits)) ≡ all → option_map capped (number_from base n (drop (i + 1) digits)) ≡ all
digit_step base value n i d digits all lt e is some whole =
    let bs = drop (i + 1) digits in
    let next = value * base + d in
    let same : capped n ≡ capped next = omega arith in
    number_from-capped base n next bs some same
    ∙ (sym (ap (λ (o : Option ℕ). option_map capped (option_and_then (λ x. number_from base (value * base + x) bs) o)) e)
    ∙ (sym (at_drop_more (λ (xs : List ℕ). option_map capped (number_from base value xs)) digits i 0 lt) ∙ whole))

pub is_some_map : (f : ℕ → ℕ) (o : Option ℕ) → is_some (option_map f o) ≡ is_some o
is_some_map f None = refl
is_some_map f (Some n) = refl

and_no : (s : Bool) (m n : ℕ) (t : Bool) → cond (s && false) (Some m) None ≡ cond (t && false) (Some n) None
and_no true m n true = refl
and_no true m n false = refl
and_no false m n true = refl
and_no false m n false = refl

-- a number past every range is in none
pub within_capped : (low high : ℕ) (o : Option ℕ) → high ≤ 1000000000000 → within low high (option_map capped o) ≡ within low high o
within_capped low high None le = refl
within_capped low high (Some n) le =
    elim (cases_lt high n) [
      | inl gt ↦ (
          let no : nat_le n high ≡ false = grind (arith, nat_tests) in
          let past : nat_le (capped n) high ≡ false = grind (arith, nat_tests) in
          ap (λ (t : Bool). cond (nat_le low (capped n) && t) (Some (capped n)) None) past
          ∙ (and_no (nat_le low (capped n)) (capped n) n (nat_le low n)
          ∙ sym (ap (λ (t : Bool). cond (nat_le low n && t) (Some n) None) no)))
      | inr ge ↦ (let same : capped n ≡ n = omega arith in ap (λ m. within low high (Some m)) same)
    ]

-- one more of few decimal digits
pub few_digits : (n i d : ℕ) → i < 18 → n < 10 ^ i → d ≤ 9 → (n * 10 + d < 1000000000000000000) × (n * 10 + d < 10 ^ (i + 1))
few_digits n i d lt below digit =
    let next : 10 ^ (i + 1) ≡ 10 ^ i * 10 = pow_more 10 i in
    let ten : 0 < 10 = omega arith in
    let short : i + 1 ≤ 18 = omega arith in
    let whole : 10 ^ (i + 1) ≤ 10 ^ 18 = pow-le-pow_right ten short in
    let least : n * 10 + d < 10 ^ (i + 1) = omega arith in
    ((omega arith), least)
