-- Reading the digits of a number from the left.
use Rattle.std.proofs.Common.{◌≡◌, ℕ, ◌+◌, ◌*◌, ◌<◌, ◌≤◌, Bool, true, false, cond, ◌&&◌, not, eqb, leb, List, [], ◌∷◌, length, get_or, drop, Some, None, refl, sym, ap, ◌∙◌, arith}
use Rattle.std.specs.List.{list_all}
use Rattle.std.specs.Char.{digit_value, is_digit}
use Rattle.std.specs.Str.Parse.{digits_value, digits_value_after}
use Rattle.std.proofs.Math.Nat.{le-mul_of_pos_right}
use Rattle.std.proofs.lemmas.Bool.{lt-leb, le-leb, leb-false, leb-true}
use Rattle.std.proofs.lemmas.List.{at_drop_more, at_drop_all}
use Rattle.pio_lex.specs.Numbers.{within, numeral}

abbrev pub all_digits : ℕ → List ℕ → Bool
all_digits radix ds = list_all (λ b. is_digit b radix) ds

-- more digits make no smaller number
grows : (radix n : ℕ) (ds : List ℕ) → 1 ≤ radix → n ≤ digits_value_after radix n ds
grows radix n [] h = omega arith
grows radix n (d ∷ ds) h =
    let more = grows radix (n * radix + digit_value d) ds h in
    let step = le-mul_of_pos_right n h in
    omega arith

-- the digits after i go on from the value n
pub record Reading (radix n : ℕ) (ds : List ℕ) (i : ℕ) : Type 0 where
  pub small : n ≤ 2147483647
  pub value : digits_value_after radix n (drop i ds) ≡ digits_value radix ds
  pub digits : all_digits radix (drop i ds) ≡ all_digits radix ds

pub reading_none : (radix : ℕ) (ds : List ℕ) → Reading radix 0 ds 0
reading_none radix ds = record { small = omega arith; value = refl; digits = refl }

at_value : (radix n : ℕ) (ds : List ℕ) (i : ℕ) → i < length ds → Reading radix n ds i → digits_value_after radix (n * radix + digit_value (get_or ds i 0)) (drop (i + 1) ds) ≡ digits_value radix ds
at_value radix n ds i lt r = sym (at_drop_more (digits_value_after radix n) ds i 0 lt) ∙ r.value

at_digits : (radix n : ℕ) (ds : List ℕ) (i : ℕ) → i < length ds → Reading radix n ds i → (is_digit (get_or ds i 0) radix && all_digits radix (drop (i + 1) ds)) ≡ all_digits radix ds
at_digits radix n ds i lt r = sym (at_drop_more (all_digits radix) ds i 0 lt) ∙ r.digits

pub reading_more : (radix n m : ℕ) (ds : List ℕ) (i : ℕ) → i < length ds → is_digit (get_or ds i 0) radix ≡ true → m ≡ n * radix + digit_value (get_or ds i 0) → m ≤ 2147483647 → Reading radix n ds i → Reading radix m ds (i + 1)
reading_more radix n m ds i lt digit e small r = record {
  small = small;
  value = ap (λ k. digits_value_after radix k (drop (i + 1) ds)) e ∙ at_value radix n ds i lt r;
  digits = sym (ap (λ (b : Bool). b && all_digits radix (drop (i + 1) ds)) digit) ∙ at_digits radix n ds i lt r;
}

pub no_digit : (radix n : ℕ) (ds : List ℕ) (i : ℕ) → i < length ds → is_digit (get_or ds i 0) radix ≡ false → Reading radix n ds i → None ≡ numeral radix ds
no_digit radix n ds i lt digit r = no_digit_by (not (eqb (length ds) 0)) (all_digits radix ds)
    (sym (at_digits radix n ds i lt r) ∙ ap (λ (b : Bool). b && all_digits radix (drop (i + 1) ds)) digit) where
      no_digit_by : (some all : Bool) → all ≡ false → None ≡ cond (some && all) (within (digits_value radix ds)) None
      no_digit_by true all e = rw e refl
      no_digit_by false all e = refl

pub too_large : (radix n : ℕ) (ds : List ℕ) (i : ℕ) → 1 ≤ radix → i < length ds → 2147483647 < n * radix + digit_value (get_or ds i 0) → Reading radix n ds i → None ≡ numeral radix ds
too_large radix n ds i low lt large r =
    let m = n * radix + digit_value (get_or ds i 0) in
    let more = grows radix m (drop (i + 1) ds) low in
    let all = at_value radix n ds i lt r in
    too_large_by (not (eqb (length ds) 0) && all_digits radix ds) (leb (digits_value radix ds) 2147483647) (lt-leb (digits_value radix ds) 2147483647 (omega arith)) where
      too_large_by : (ok small : Bool) → small ≡ false → None ≡ cond ok (cond small (Some (digits_value radix ds)) None) None
      too_large_by true small e = rw e refl
      too_large_by false small e = refl

pub reading_all : (radix n : ℕ) (ds : List ℕ) (i : ℕ) → length ds ≤ i → eqb (length ds) 0 ≡ false → Reading radix n ds i → Some n ≡ numeral radix ds
reading_all radix n ds i le some r =
    let v : digits_value radix ds ≡ n = sym r.value ∙ at_drop_all (digits_value_after radix n) ds i le in
    let d : all_digits radix ds ≡ true = sym r.digits ∙ at_drop_all (all_digits radix) ds i le in
    let s : leb n 2147483647 ≡ true = le-leb n 2147483647 r.small in
    rw (v, d, some, s) refl

-- a value that is not within is too large
pub not_within : (n : ℕ) → within n ≡ None → 2147483647 < n
not_within n e = not_within_by (leb n 2147483647) refl e where
  not_within_by : (b : Bool) → leb n 2147483647 ≡ b → cond b (Some n) None ≡ None → 2147483647 < n
  not_within_by true h e = absurd cc
  not_within_by false h e = leb-false n 2147483647 h

-- a value that is within
pub is_within : (n v : ℕ) → Some v ≡ within n → (v ≡ n) × (v ≤ 2147483647)
is_within n v e = is_within_by (leb n 2147483647) refl e where
  is_within_by : (b : Bool) → leb n 2147483647 ≡ b → Some v ≡ cond b (Some n) None → (v ≡ n) × (v ≤ 2147483647)
  is_within_by true h e = let same : v ≡ n = cc in (same, omega (arith, same, leb-true n 2147483647 h))
  is_within_by false h e = absurd cc
