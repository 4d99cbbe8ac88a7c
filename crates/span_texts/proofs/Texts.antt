-- The fields of a row, and the numbers in them.
use Rattle.std.proofs.Common.{◌≡◌, ℕ, suc, ◌+◌, ◌-◌, ◌*◌, ◌^◌, ◌<◌, ◌≤◌, nat_lt, nat_le, eqb, ◌==◌, Bool, true, false, List, [], ◌∷◌, ◌++◌, length, get_or, Option, Some, None, refl, ap, ◌∙◌, append_assoc, codes, decimal, inl, inr, arith}
use Rattle.std.proofs.lemmas.Bool.{cases_lt, cases_Bool}
use Rattle.std.proofs.lemmas.Bool.Decides.{nat_tests}
use Rattle.std.proofs.lemmas.Fmt.{decimal_is_IsNumeral, decimal_digit, first_decimal}
use Rattle.std.proofs.lemmas.List.Elements.{All-from_recursion}
use Rattle.std.proofs.lemmas.List.Splits.{slice_split_none, slice_split_at}
use Rattle.std.proofs.lemmas.Str.Parse.{digit_from_value, IsNumeralModel, numerals_by_value, tells_digits}
use Rattle.std.specs.Char.{digit_value}
use Rattle.std.specs.List.{AllByRecursion, join_with_byte}
use Rattle.std.specs.Str.Parse.{AllDigits, digits_value, digits_value_after}
use Rattle.byte_lines.specs.Bytes.{digit_of}
use Rattle.span_step.specs.declared.ages.Ages.{Ages}
use Rattle.span_step.specs.declared.ages.Ages.TheVariants.{Empty, Between}
use Rattle.span_bounds.specs.declared.row.Row.{Row}
use Rattle.span_texts.specs.TableLines.{fields_of}
use Rattle.span_texts.specs.Numbers.{number_from, number_in}
use Rattle.span_texts.specs.Rows.{row_line}
use Rattle.span_texts.specs.Words.{known_text, level_text}

-- the fields of ages
abbrev pub ages_fields : Ages → List (List ℕ)
ages_fields Empty = codes "-" ∷ []
ages_fields (Between lo hi) = decimal lo ∷ decimal hi ∷ []

-- the fields of a row
abbrev pub row_fields : Row → List (List ℕ)
row_fields r =
    decimal r.context.address ∷ known_text r.context.x ∷ known_text r.context.y ∷ level_text r.context.from ∷ level_text r.context.to ∷ ages_fields r.ages

-- the text of a row without its newline
abbrev pub row_text : Row → List ℕ
row_text r = join_with_byte 32 (row_fields r)

five : (a x y f t g : List ℕ) → a ++ codes " " ++ x ++ codes " " ++ y ++ (codes " " ++ f ++ codes " " ++ t ++ codes " ") ++ g ++ codes "\n"
    ≡ join_with_byte 32 (a ∷ x ∷ y ∷ f ∷ t ∷ g ∷ []) ++ (10 ∷ [])
five a x y f t g = simp append_assoc

six : (a x y f t lo hi : List ℕ) → a ++ codes " " ++ x ++ codes " " ++ y ++ (codes " " ++ f ++ codes " " ++ t ++ codes " ") ++ (lo ++ codes " " ++ hi) ++ codes "\n"
    ≡ join_with_byte 32 (a ∷ x ∷ y ∷ f ∷ t ∷ lo ∷ hi ∷ []) ++ (10 ∷ [])
six a x y f t lo hi = simp append_assoc

row_line-of : (r : Row) (a : Ages) → r.ages ≡ a → row_line r ≡ row_text r ++ (10 ∷ [])
unfolding row_line
row_line-of r Empty e =
    rw e (five (decimal r.context.address) (known_text r.context.x) (known_text r.context.y) (level_text r.context.from) (level_text r.context.to) (codes "-"))
row_line-of r (Between lo hi) e =
    rw e (six (decimal r.context.address) (known_text r.context.x) (known_text r.context.y) (level_text r.context.from) (level_text r.context.to) (decimal lo) (decimal hi))

-- the line of a row is its text and a newline
pub row_line-text : (r : Row) → row_line r ≡ row_text r ++ (10 ∷ [])
row_line-text r = row_line-of r r.ages refl

-- no byte of a text is this one
abbrev pub Without : ℕ → List ℕ → Type 0
Without c text = AllByRecursion (λ b. eqb b c ≡ false) text

other : (d c : ℕ) → c ≤ 32 → 33 ≤ d → eqb d c ≡ false
other d c l m = grind (arith, nat_tests)

without_digits : (c : ℕ) → c ≤ 32 → (ds : List ℕ) → AllDigits 10 ds → Without c ds
without_digits c l [] h = tt
without_digits c l (d ∷ ds) h =
    let p : 48 ≤ d = (digit_from_value d h.0).0 in
    (other d c l (omega arith), without_digits c l ds h.1)

pub without_decimal : (c n : ℕ) → c ≤ 32 → n < 2 ^ 64 → Without c (decimal n)
without_decimal c n l h = without_digits c l (decimal n) ((decimal_is_IsNumeral n h).0.1)

pub without_known : (c : ℕ) (o : Option ℕ) → c ≤ 32 → ((n : ℕ) → o ≡ Some n → n < 2 ^ 64) → Without c (known_text o)
without_known c None l h = (other 97 c l (omega arith), (other 110 c l (omega arith), (other 121 c l (omega arith), tt)))
without_known c (Some n) l h = without_decimal c n l (h n refl)

pub without_level : (c : ℕ) (b : Bool) → c ≤ 32 → Without c (level_text b)
without_level c true l = (other 49 c l (omega arith), tt)
without_level c false l = (other 48 c l (omega arith), tt)

-- numbers below 2^64
abbrev pub AreSmall : Ages → Type 0
AreSmall Empty = Unit {0}
AreSmall (Between lo hi) = (lo < 2 ^ 64) × (hi < 2 ^ 64)

without_ages : (c : ℕ) (a : Ages) → c ≤ 32 → AreSmall a → AllByRecursion (Without c) (ages_fields a)
without_ages c Empty l h = ((other 45 c l (omega arith), tt), tt)
without_ages c (Between lo hi) l h = (without_decimal c lo l h.0, (without_decimal c hi l h.1, tt))

-- what is known is below 2^64
abbrev pub IsSmall : Option ℕ → Type 0
IsSmall o = (n : ℕ) → o ≡ Some n → n < 2 ^ 64

-- the numbers of a row are below 2^64
pub record IsWritten (r : Row) : Type 0 where
  pub address : r.context.address < 2 ^ 64
  pub x : IsSmall r.context.x
  pub y : IsSmall r.context.y
  pub ages : AreSmall r.ages

pub without_fields : (c : ℕ) (r : Row) → c ≤ 32 → IsWritten r → AllByRecursion (Without c) (row_fields r)
without_fields c r l h = (
  without_decimal c r.context.address l h.address,
  (
    without_known c r.context.x l h.x,
    (
      without_known c r.context.y l h.y,
      (without_level c r.context.from l, (without_level c r.context.to l, without_ages c r.ages l h.ages)),
    ),
  ),
)

-- fields without blanks, joined by blanks, are the fields of the whole
pub split_join : (first : List ℕ) (rest : List (List ℕ)) → AllByRecursion (Without 32) (first ∷ rest) → fields_of (join_with_byte 32 (first ∷ rest)) ≡ first ∷ rest
split_join first [] h = slice_split_none (λ b. eqb b 32) first (All-from_recursion (λ b. eqb b 32 ≡ false) first h.0)
split_join first (next ∷ rest) h =
    slice_split_at (λ b. eqb b 32) first 32 (join_with_byte 32 (next ∷ rest)) (All-from_recursion (λ b. eqb b 32 ≡ false) first h.0) refl
    ∙ ap (λ (ls : List (List ℕ)). first ∷ ls) (split_join next rest h.1)

without-append : (c : ℕ) (xs ys : List ℕ) → Without c xs → Without c ys → Without c (xs ++ ys)
without-append c [] ys h k = k
without-append c (x ∷ xs) ys h k = (h.0, without-append c xs ys h.1 k)

-- no newline is in fields joined by blanks, where there is none in a field
pub without_join : (fields : List (List ℕ)) → AllByRecursion (Without 10) fields → Without 10 (join_with_byte 32 fields)
without_join [] h = tt
without_join (first ∷ []) h = h.0
without_join (first ∷ next ∷ rest) h = without-append 10 first (32 ∷ join_with_byte 32 (next ∷ rest)) h.0 (refl, without_join (next ∷ rest) h.1)

pub digit_of-value : (b : ℕ) → digit_value b < 10 → digit_of 10 b ≡ Some (digit_value b)
digit_of-value b h =
    let p = digit_from_value b h in
    let low : 48 ≤ b = p.0 in
    let high : b ≤ 57 = p.1 in
    let t : nat_le 48 b ≡ true = grind (arith, nat_tests) in
    let u : nat_le b 57 ≡ true = grind (arith, nat_tests) in
    let v : nat_lt (b - 48) 10 ≡ true = grind (arith, nat_tests) in
    let w : nat_lt b 48 ≡ false = grind (arith, nat_tests) in
    let x : nat_lt b 58 ≡ true = grind (arith, nat_tests) in
    rw (t, u, v, w, x) refl

number_from-digits : (v : ℕ) (ds : List ℕ) → AllDigits 10 ds → number_from v ds ≡ Some (digits_value_after 10 v ds)
number_from-digits v [] h = refl
number_from-digits v (d ∷ ds) h = rw (digit_of-value d h.0) (number_from-digits (v * 10 + digit_value d) ds h.1)

-- digits without a leading zero
pub numeral_in : (ds : List ℕ) → AllDigits 10 ds → 0 < length ds → (get_or ds 0 0 ≡ 48 → length ds ≡ 1) → number_in ds ≡ Some (digits_value 10 ds)
numeral_in [] h l z = absurd (omega arith)
numeral_in (b ∷ []) h l z = number_from-digits 0 (b ∷ []) h
numeral_in (b ∷ c ∷ ds) h l z = elim (cases_Bool (b == 48)) [
  | inl yes' ↦ absurd (let e : b ≡ 48 = grind (arith, nat_tests) in let k : suc (suc (length ds)) ≡ 1 = z e in omega arith)
  | inr no' ↦ rw no' (number_from-digits 0 (b ∷ c ∷ ds) h)
]

leading : (n : ℕ) → n < 2 ^ 64 → get_or (decimal n) 0 0 ≡ 48 → length (decimal n) ≡ 1
leading n h e = elim (cases_lt 0 n) [
  | inl more ↦ absurd (omega (arith, first_decimal n more h))
  | inr none ↦ (let zero : n ≡ 0 = omega arith in ap length (ap decimal zero ∙ decimal_digit 0 (omega arith)))
]

-- the number of a decimal text
pub number_in-decimal : (n : ℕ) → n < 2 ^ 64 → number_in (decimal n) ≡ Some n
number_in-decimal n h =
    let p = decimal_is_IsNumeral n h in
    numeral_in (decimal n) p.0.1 p.0.0 (leading n h) ∙ ap (λ (m : ℕ). Some m) p.1

pub own : IsNumeralModel (AllDigits 10) (digits_value 10)
own = numerals_by_value (AllDigits 10) tells_digits
