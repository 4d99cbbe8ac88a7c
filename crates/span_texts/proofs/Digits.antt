-- A number that is cut off past every range stays so with more digits.
use Rattle.std.proofs.Common.{◌≡◌, ℕ, ◌+◌, ◌*◌, ◌<◌, min, length, get_or, drop, Option, Some, None, List, [], ◌∷◌, refl, sym, ap, ◌∙◌, inl, inr, arith}
use Rattle.std.specs.Prelude.{option_map, option_and_then}
use Rattle.std.proofs.lemmas.List.{at_drop_more}
use Rattle.std.proofs.lemmas.Bool.{cases_lt}
use Rattle.byte_lines.specs.Bytes.{digit_of}
use Rattle.span_texts.specs.Numbers.{number_from, capped}

-- one more digit
more : (a b d : ℕ) → capped a ≡ capped b → capped (a * 10 + d) ≡ capped (b * 10 + d)
more a b d e =
    elim (cases_lt a 16777217) [
      | inl lt ↦ (let same : a ≡ b = omega arith in ap (λ n. capped (n * 10 + d)) same)
      | inr ge ↦ omega arith
    ]

step : (a b : ℕ) (o : Option ℕ) (bs : List ℕ) → ((x y : ℕ) → capped x ≡ capped y → option_map capped (number_from x bs) ≡ option_map capped (number_from y bs)) → capped a ≡ capped b → option_map capped (option_and_then (λ d. number_from (a * 10 + d) bs) o) ≡ option_map capped (option_and_then (λ d. number_from (b * 10 + d) bs) o)
step a b None bs h e = refl
step a b (Some d) bs h e = h (a * 10 + d) (b * 10 + d) (more a b d e)

pub number_from-capped : (a b : ℕ) (bs : List ℕ) → capped a ≡ capped b → option_map capped (number_from a bs) ≡ option_map capped (number_from b bs)
number_from-capped a b [] e = ap (λ (n : ℕ). Some n) e
number_from-capped a b (c ∷ cs) e = step a b (digit_of 10 c) cs (λ x y h. number_from-capped x y cs h) e

-- one more of the digits
pub digit_step : (value n i d : ℕ) (digits : List ℕ) (all : Option ℕ) → i < length digits → digit_of 10 (get_or digits i 0) ≡ Some d → n ≡ min (value * 10 + d) 16777217 → option_map capped (number_from value (drop i digits)) ≡ all → option_map capped (number_from n (drop (i + 1) digits)) ≡ all
digit_step value n i d digits all lt e is whole =
    let bs = drop (i + 1) digits in
    let next = value * 10 + d in
    let same : capped n ≡ capped next = omega arith in
    number_from-capped n next bs same
    ∙ (sym (ap (λ (o : Option ℕ). option_map capped (option_and_then (λ x. number_from (value * 10 + x) bs) o)) e)
    ∙ (sym (at_drop_more (λ (xs : List ℕ). option_map capped (number_from value xs)) digits i 0 lt) ∙ whole))
