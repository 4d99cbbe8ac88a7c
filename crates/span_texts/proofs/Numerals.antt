-- A field that is a number is that number's decimal text.
use Rattle.std.proofs.Common.{◌≡◌, ℕ, ◌+◌, ◌-◌, ◌*◌, ◌^◌, ◌<◌, ◌≤◌, nat_lt, nat_le, cond, ◌&&◌, ◌==◌, Bool, true, false, List, [], ◌∷◌, length, get_or, Option, Some, None, refl, sym, ap, ◌∙◌, codes, decimal, inl, inr, arith}
use Rattle.std.specs.Prelude.{option_and_then, option_map}
use Rattle.std.specs.Str.{bytes_eq}
use Rattle.std.proofs.lemmas.Bool.{cases_lt, cases_Bool}
use Rattle.std.proofs.lemmas.Bool.Decides.{nat_tests}
use Rattle.std.proofs.lemmas.Fmt.{decimal-digits_value}
use Rattle.std.specs.Char.{digit_value}
use Rattle.std.specs.Str.Parse.{AllDigits, digits_value_after}
use Rattle.std.proofs.lemmas.Option.{none-some, same_Some}
use Rattle.std.proofs.lemmas.Slice.Eq.{bytes_eq-Decides}
use Rattle.byte_lines.specs.Bytes.{digit_of}
use Rattle.span_texts.specs.TableLines.{known_in}
use Rattle.span_texts.specs.Numbers.{number_from, number_in}
use Rattle.span_texts.specs.Words.{known_text}
use Rattle.span_texts.proofs.Texts.{digit_of-value, own}

low_byte : (b : ℕ) → b < 48 → digit_of 10 b ≡ None
low_byte b l =
    let t : nat_le 48 b ≡ false = grind (arith, nat_tests) in
    let u : nat_le 97 b ≡ false = grind (arith, nat_tests) in
    let v : nat_le 65 b ≡ false = grind (arith, nat_tests) in
    rw (t, u, v) refl

neither : (a b : Bool) → cond {A = Option ℕ} a None (cond b None None) ≡ None
neither true b = refl
neither false true = refl
neither false false = refl

high_byte : (b : ℕ) → 57 < b → digit_of 10 b ≡ None
high_byte b l =
    let t : nat_le 48 b ≡ true = grind (arith, nat_tests) in
    let u : nat_le b 57 ≡ false = grind (arith, nat_tests) in
    let v : nat_lt (b - 97 + 10) 10 ≡ false = grind (arith, nat_tests) in
    let w : nat_lt (b - 65 + 10) 10 ≡ false = grind (arith, nat_tests) in
    rw (t, u, v, w) (neither (nat_le 97 b && nat_le b 102) (nat_le 65 b && nat_le b 70))

digit_value-low : (b : ℕ) → 48 ≤ b → b ≤ 57 → digit_value b ≡ b - 48
digit_value-low b l m =
    let t : nat_lt b 48 ≡ false = grind (arith, nat_tests) in
    let u : nat_lt b 58 ≡ true = grind (arith, nat_tests) in
    rw (t, u) refl

digit_value-of : (b d : ℕ) → digit_of 10 b ≡ Some d → (digit_value b < 10) × (digit_value b ≡ d)
digit_value-of b d e = elim (cases_lt b 48) [
  | inl low ↦ absurd (none-some _ (sym (low_byte b low) ∙ e))
  | inr from ↦ elim (cases_lt 57 b) [
    | inl high ↦ absurd (none-some _ (sym (high_byte b high) ∙ e))
    | inr to ↦ (
        let v : digit_value b ≡ b - 48 = digit_value-low b from to in
        let small : digit_value b < 10 = omega (arith, v) in
        (small, same_Some (digit_value b) d (sym (digit_of-value b small) ∙ e)))
  ]
]

-- one more digit
digit_first : (v n b : ℕ) (bs : List ℕ) (o : Option ℕ) → digit_of 10 b ≡ o → option_and_then (λ d. number_from (v * 10 + d) bs) o ≡ Some n
    → ((w : ℕ) → number_from w bs ≡ Some n → AllDigits 10 bs × (digits_value_after 10 w bs ≡ n)) → AllDigits 10 (b ∷ bs) × (digits_value_after 10 v (b ∷ bs) ≡ n)
digit_first v n b bs None p e more = absurd (none-some _ e)
digit_first v n b bs (Some d) p e more =
    let q = digit_value-of b d p in
    let r = more (v * 10 + d) e in
    ((q.0, r.0), ap (λ (x : ℕ). digits_value_after 10 (v * 10 + x) bs) q.1 ∙ r.1)

digits-number_from : (v n : ℕ) (ds : List ℕ) → number_from v ds ≡ Some n → AllDigits 10 ds × (digits_value_after 10 v ds ≡ n)
digits-number_from v n [] e = (tt, same_Some v n e)
digits-number_from v n (b ∷ bs) e = digit_first v n b bs (digit_of 10 b) refl e (λ w h. digits-number_from w n bs h)

-- the text of a number of digits without a leading zero
numeral : (n : ℕ) (ds : List ℕ) → n < 2 ^ 64 → number_from 0 ds ≡ Some n → 0 < length ds → (get_or ds 0 0 ≡ 48 → length ds ≡ 1) → decimal n ≡ ds
numeral n ds h e l z =
    let p = digits-number_from 0 n ds e in
    ap decimal (sym p.1) ∙ decimal-digits_value own ds p.0 l z (omega (arith, p.1, h))

pub decimal-number_in : (n : ℕ) (ds : List ℕ) → n < 2 ^ 64 → number_in ds ≡ Some n → decimal n ≡ ds
decimal-number_in n [] h e = absurd (none-some _ e)
decimal-number_in n (b ∷ []) h e = numeral n (b ∷ []) h e (omega arith) (λ z. refl)
decimal-number_in n (b ∷ c ∷ ds) h e = elim (cases_Bool (b == 48)) [
  | inl yes' ↦ absurd (none-some _ (rw yes' at e))
  | inr no' ↦ numeral n (b ∷ c ∷ ds) h (rw no' at e) (omega arith) (λ z. absurd (other b no' z))
] where
  other : (b : ℕ) → (b == 48) ≡ false → b ≡ 48 → ⊥
  other b p q = grind (arith, nat_tests)

-- what is known of X or Y is known from its text
pub known_text-known_in : (o : Option ℕ) (field : List ℕ) → ((n : ℕ) → o ≡ Some n → n < 2 ^ 64) → known_in field ≡ Some o → known_text o ≡ field
known_text-known_in o field h e = elim (cases_Bool (bytes_eq field (codes "any"))) [
  | inl yes' ↦ (
      let p : None ≡ o = same_Some None o (any field o yes' e) in
      ap known_text (sym p) ∙ sym ((bytes_eq-Decides field (codes "any")).0 yes'))
  | inr no' ↦ number o field h (other field o no' e)
] where
  any : (field : List ℕ) (o : Option ℕ) → bytes_eq field (codes "any") ≡ true → known_in field ≡ Some o → Some None ≡ Some o
  any field o p e = rw p at e

  other : (field : List ℕ) (o : Option ℕ) → bytes_eq field (codes "any") ≡ false → known_in field ≡ Some o → option_map Some (number_in field) ≡ Some o
  other field o p e = rw p at e

  number : (o : Option ℕ) (field : List ℕ) → ((n : ℕ) → o ≡ Some n → n < 2 ^ 64) → option_map Some (number_in field) ≡ Some o → known_text o ≡ field
  number o field h e = on (number_in field) refl where
    on : (p : Option ℕ) → number_in field ≡ p → known_text o ≡ field
    on None q = absurd (none-some _ (rw q at e))
    on (Some n) q =
        let s : Some n ≡ o = same_Some (Some n) o (rw q at e) in
        ap known_text (sym s) ∙ decimal-number_in n field (h n (sym s)) q
