-- Digits and characters written from the last to the first.
use Rattle.std.proofs.Common.{◌≡◌, ℕ, ◌+◌, ◌-◌, ◌*◌, ◌/◌, ◌%◌, ◌^◌, ◌<◌, ◌≤◌, ◌&&◌, T, drop, get_or, length, slice_index_or, slice_set, Bool, true, false, cond, eqb, List, [], ◌∷◌, ◌++◌, zero, suc, refl, ap, sym, ◌∙◌, inl, inr, arith, eq-eqb, eq-zero-or-pos, eqb→eq, subst}
use Rattle.std.specs.Prelude.{nat_le}
use lib.Dec.{leb→le}
use lib.Ieee.Fits.{and_l, and_r}
use Rattle.vcd_trace.specs.declared.line.TheConstants.{COUNTS, FOURS}
use Rattle.vcd_trace.specs.ClockText.{four_digits}
use Rattle.std.specs.Fmt.{digits, digits_onto, digit_glyph}
use borrow.Author.Tests.{ne_eqb}
use Rattle.std.proofs.Math.Pow.{shr_lt}
use Rattle.std.proofs.lemmas.Grind.{drop-set_at}

-- the last k binary digits of a number at most, before what follows them
unfoldable pub binary_onto : ℕ → ℕ → List ℕ → List ℕ
binary_onto k n acc = digits_onto k 2 false n acc

onto-cond : (b : Bool) (x y t : List ℕ) → cond b (x ++ t) (y ++ t) ≡ cond b x y ++ t
onto-cond true x y t = refl
onto-cond false x y t = refl

-- what comes after the digits may be put after them afterwards
onto-append : (k n : ℕ) (acc t : List ℕ) → digits_onto k 2 false n (acc ++ t) ≡ digits_onto k 2 false n acc ++ t
onto-append zero n acc t = refl
onto-append (suc k) n acc t =
    ap (λ x. cond (eqb (n / 2) 0) (digit_glyph false (n % 2) ∷ (acc ++ t)) x) (onto-append k (n / 2) (digit_glyph false (n % 2) ∷ acc) t)
    ∙ onto-cond (eqb (n / 2) 0) (digit_glyph false (n % 2) ∷ acc) (digits_onto k 2 false (n / 2) (digit_glyph false (n % 2) ∷ acc)) t

pub binary_onto-all : (n : ℕ) (t : List ℕ) → binary_onto 64 n t ≡ digits 2 false n ++ t
unfolding digits binary_onto
binary_onto-all n t = onto-append 64 n [] t

onto_by : (k n : ℕ) (acc : List ℕ) (t : Bool) → eqb (n / 2) 0 ≡ t → digits_onto (suc k) 2 false n acc ≡ cond t (digit_glyph false (n % 2) ∷ acc) (digits_onto k 2 false (n / 2) (digit_glyph false (n % 2) ∷ acc))
onto_by k n acc t e = ap (λ (b : Bool). cond b (digit_glyph false (n % 2) ∷ acc) (digits_onto k 2 false (n / 2) (digit_glyph false (n % 2) ∷ acc))) e

glyph : (d : ℕ) → d < 2 → digit_glyph false d ≡ 48 + d
glyph zero h = refl
glyph (suc zero) h = refl
glyph (suc (suc d)) h = absurd (omega arith)

-- the first digit
pub binary_onto-last : (k n : ℕ) (acc : List ℕ) → 0 < k → n / 2 ≡ 0 → binary_onto k n acc ≡ (48 + n % 2) ∷ acc
unfolding binary_onto
binary_onto-last zero n acc h e = absurd (omega arith)
binary_onto-last (suc k) n acc h e = onto_by k n acc true (eq-eqb _ 0 e) ∙ ap (λ d. d ∷ acc) (glyph (n % 2) (omega arith))

-- a digit before which there are more
pub binary_onto-step : (j k n : ℕ) (acc : List ℕ) → k ≡ j + 1 → (n / 2 ≡ 0 → ⊥) → binary_onto k n acc ≡ binary_onto j (n / 2) ((48 + n % 2) ∷ acc)
unfolding binary_onto
binary_onto-step j k n acc h e =
    ap (λ i. digits_onto i 2 false n acc) (let s : k ≡ suc j = omega arith in s)
    ∙ onto_by j n acc false (ne_eqb _ 0 e) ∙ ap (λ d. digits_onto j 2 false (n / 2) (d ∷ acc)) (glyph (n % 2) (omega arith))

-- a number of so many bits, halved, has one less
pub half_fits : (j k n : ℕ) → k ≡ j + 1 → n < 2 ^ k → n / 2 < 2 ^ j
half_fits j k n e h = shr_lt j 1 (let P : ℕ → Type 0 = λ i. n < 2 ^ i in subst P e h)

-- a number that is not 0 has a bit
pub has_bit : (k n : ℕ) → n < 2 ^ k → (n ≡ 0 → ⊥) → 1 ≤ k
has_bit zero n h e = absurd (e (omega arith))
has_bit (suc k) n h e = omega arith

-- a place before what is written, with a byte put there
pub put_at : (line : List ℕ) (at next byte : ℕ) (rest : List ℕ) → at + 1 ≡ next → next ≤ length line → drop next line ≡ rest → drop at (slice_set line at byte) ≡ byte ∷ rest
put_at line at next byte rest e high text =
    drop-set_at line at at byte refl (omega (arith, e, high)) ∙ ap (λ (n : ℕ). byte ∷ drop n line) e ∙ ap (λ (l : List ℕ). byte ∷ l) text

-- ---- four digits at a time

-- the last four digits, before which there are more
pub binary_onto-four : (j k n : ℕ) (acc : List ℕ) → k ≡ j + 4 → 16 ≤ n → binary_onto k n acc ≡ binary_onto j (n / 16) (four_digits n ++ acc)
binary_onto-four j k n acc h low =
    let by4 : n / 2 / 2 ≡ n / 4 = omega arith in
    let by8 : n / 2 / 2 / 2 ≡ n / 8 = omega arith in
    let by16 : n / 2 / 2 / 2 / 2 ≡ n / 16 = omega arith in
    let d0 : ℕ = 48 + n % 2 in
    let d1 : ℕ = 48 + n / 2 % 2 in
    binary_onto-step (j + 3) k n acc (omega (arith, h)) (λ e. let z : n / 2 ≡ 0 = e in absurd (omega (arith, z, low)))
    ∙ binary_onto-step (j + 2) (j + 3) (n / 2) (d0 ∷ acc) (omega arith) (λ e. let z : n / 2 / 2 ≡ 0 = e in absurd (omega (arith, z, low)))
    ∙ binary_onto-step (j + 1) (j + 2) (n / 2 / 2) (d1 ∷ d0 ∷ acc) (omega arith) (λ e. let z : n / 2 / 2 / 2 ≡ 0 = e in absurd (omega (arith, z, low)))
    ∙ binary_onto-step j (j + 1) (n / 2 / 2 / 2) ((48 + n / 2 / 2 % 2) ∷ d1 ∷ d0 ∷ acc) (omega arith) (λ e. let z : n / 2 / 2 / 2 / 2 ≡ 0 = e in absurd (omega (arith, z, low)))
    ∙ ap (λ (q : ℕ). binary_onto j q ((48 + n / 2 / 2 / 2 % 2) ∷ (48 + n / 2 / 2 % 2) ∷ d1 ∷ d0 ∷ acc)) by16
    ∙ ap (λ (q : ℕ). binary_onto j (n / 16) ((48 + q % 2) ∷ (48 + n / 2 / 2 % 2) ∷ d1 ∷ d0 ∷ acc)) by8
    ∙ ap (λ (q : ℕ). binary_onto j (n / 16) ((48 + n / 8 % 2) ∷ (48 + q % 2) ∷ d1 ∷ d0 ∷ acc)) by4

-- how many digits a number below 16 has
abbrev pub count_of : ℕ → ℕ
count_of n = slice_index_or COUNTS n 0

-- the first digits, of a number below 16
pub binary_onto-top : (j n : ℕ) (acc : List ℕ) → n < 16 → binary_onto (suc (suc (suc (suc j)))) n acc ≡ drop (4 - count_of n) (four_digits n ++ acc)
unfolding binary_onto
binary_onto-top j zero acc h = refl
binary_onto-top j (suc zero) acc h = refl
binary_onto-top j (suc (suc zero)) acc h = refl
binary_onto-top j (suc (suc (suc zero))) acc h = refl
binary_onto-top j (suc (suc (suc (suc zero)))) acc h = refl
binary_onto-top j (suc (suc (suc (suc (suc zero))))) acc h = refl
binary_onto-top j (suc (suc (suc (suc (suc (suc zero)))))) acc h = refl
binary_onto-top j (suc (suc (suc (suc (suc (suc (suc zero))))))) acc h = refl
binary_onto-top j (suc (suc (suc (suc (suc (suc (suc (suc zero)))))))) acc h = refl
binary_onto-top j (suc (suc (suc (suc (suc (suc (suc (suc (suc zero))))))))) acc h = refl
binary_onto-top j (suc (suc (suc (suc (suc (suc (suc (suc (suc (suc zero)))))))))) acc h = refl
binary_onto-top j (suc (suc (suc (suc (suc (suc (suc (suc (suc (suc (suc zero))))))))))) acc h = refl
binary_onto-top j (suc (suc (suc (suc (suc (suc (suc (suc (suc (suc (suc (suc zero)))))))))))) acc h = refl
binary_onto-top j (suc (suc (suc (suc (suc (suc (suc (suc (suc (suc (suc (suc (suc zero))))))))))))) acc h = refl
binary_onto-top j (suc (suc (suc (suc (suc (suc (suc (suc (suc (suc (suc (suc (suc (suc zero)))))))))))))) acc h = refl
binary_onto-top j (suc (suc (suc (suc (suc (suc (suc (suc (suc (suc (suc (suc (suc (suc (suc zero))))))))))))))) acc h = refl
binary_onto-top j (suc (suc (suc (suc (suc (suc (suc (suc (suc (suc (suc (suc (suc (suc (suc (suc n)))))))))))))))) acc h = absurd (omega arith)

-- a number below 16 has one to four digits
abbrev are_counts : ℕ → Bool
are_counts zero = true
are_counts (suc n) = (nat_le 1 (count_of n) && nat_le (count_of n) 4) && are_counts n

counts_below : (m n : ℕ) → T (are_counts m) → n < m → (1 ≤ count_of n) × (count_of n ≤ 4)
counts_below zero n t h = absurd (omega arith)
counts_below (suc m) n t h =
    elim (eq-zero-or-pos (m - n)) [
      | inl z ↦ let e : n ≡ m = omega (arith, z, h) in let a = and_l _ (are_counts m) t in rw e (leb→le _ _ (and_l _ _ a), leb→le _ _ (and_r _ _ a))
      | inr g ↦ counts_below m n (and_r _ (are_counts m) t) (omega (arith, g))
    ]

pub count-ends : (n : ℕ) → n < 16 → (1 ≤ count_of n) × (count_of n ≤ 4)
count-ends n h = counts_below 16 n tt h

-- the table has the four digits of each number below 16
abbrev are_fours : ℕ → Bool
are_fours zero = true
are_fours (suc n) =
    ((eqb (get_or FOURS (n * 4) 0) (48 + n / 8 % 2) && eqb (get_or FOURS (n * 4 + 1) 0) (48 + n / 4 % 2))
    && (eqb (get_or FOURS (n * 4 + 2) 0) (48 + n / 2 % 2) && eqb (get_or FOURS (n * 4 + 3) 0) (48 + n % 2))) && are_fours n

pub record AreDigits (n : ℕ) : Type 0 where
  pub first : get_or FOURS (n * 4) 0 ≡ 48 + n / 8 % 2
  pub second : get_or FOURS (n * 4 + 1) 0 ≡ 48 + n / 4 % 2
  pub third : get_or FOURS (n * 4 + 2) 0 ≡ 48 + n / 2 % 2
  pub fourth : get_or FOURS (n * 4 + 3) 0 ≡ 48 + n % 2

fours_below : (m n : ℕ) → T (are_fours m) → n < m → AreDigits n
fours_below zero n t h = absurd (omega arith)
fours_below (suc m) n t h =
    elim (eq-zero-or-pos (m - n)) [
      | inl z ↦ let e : n ≡ m = omega (arith, z, h) in
          let a = and_l _ (are_fours m) t in
          let low = and_l _ _ a in
          let high = and_r _ _ a in
          let here : AreDigits m = record { first = eqb→eq _ _ (and_l _ _ low); second = eqb→eq _ _ (and_r _ _ low); third = eqb→eq _ _ (and_l _ _ high); fourth = eqb→eq _ _ (and_r _ _ high) } in
          subst AreDigits (sym e) here
      | inr g ↦ fours_below m n (and_r _ (are_fours m) t) (omega (arith, g))
    ]

pub FOURS_at : (n : ℕ) → n < 16 → AreDigits n
FOURS_at n h = fours_below 16 n tt h
