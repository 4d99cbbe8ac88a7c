-- The line of a clock that is kept: what its last two digits make of it.
use Rattle.std.proofs.Common.{◌≡◌, ℕ, ◌+◌, ◌-◌, ◌*◌, ◌/◌, ◌%◌, ◌^◌, ◌<◌, ◌≤◌, drop, length, slice_set, List, [], ◌∷◌, ◌++◌, suc, refl, sym, ap, ◌∙◌, arith, append_assoc, length-append, length-drop}
use Rattle.std.specs.Fmt.{decimal}
use Rattle.std.proofs.lemmas.List.{drop-set-add}
use Rattle.itoa.proofs.Decimal.{decimal_pair}
use Rattle.vcd_trace.specs.VcdText.{clock_line}
use Rattle.vcd_trace.specs.ClockText.{IsKept}

-- the digits before the last two, then those
pub clock_line-pair : (clock : ℕ) → 100 ≤ clock → clock < 2 ^ 64 → clock_line clock ≡ 35 ∷ (decimal (clock / 100) ++ (48 + clock % 100 / 10) ∷ (48 + clock % 100 % 10) ∷ 10 ∷ [])
clock_line-pair clock low high =
    ap (λ l. 35 ∷ (l ++ 10 ∷ [])) (decimal_pair clock low high)
    ∙ ap (λ l. 35 ∷ l) (append_assoc (decimal (clock / 100)) ((48 + clock % 100 / 10) ∷ (48 + clock % 100 % 10) ∷ []) (10 ∷ []))

-- a line that was written whole is kept
pub kept-anew : (room : List ℕ) (start clock : ℕ) → 100 ≤ clock → clock < 2 ^ 64 → start ≤ 22 → drop start room ≡ clock_line clock → IsKept room start (clock - clock % 100)
kept-anew room start clock low high within text = record {
  hundreds = clock / 100;
  whole = omega arith;
  some = omega arith;
  within = within;
  tens = 48 + clock % 100 / 10;
  ones = 48 + clock % 100 % 10;
  text = text ∙ clock_line-pair clock low high;
}

-- two places in the middle, written
set-middle : (front : List ℕ) (a b x y : ℕ) (rest : List ℕ) → slice_set (slice_set (front ++ a ∷ b ∷ rest) (length front) x) (suc (length front)) y ≡ front ++ x ∷ y ∷ rest
set-middle [] a b x y rest = refl
set-middle (f ∷ front) a b x y rest = ap (λ l. f ∷ l) (set-middle front a b x y rest)

-- the last two digits, written
pub kept-digits : (room : List ℕ) (start hundred x y : ℕ) (k : IsKept room start hundred) → length room ≡ 22 → drop start (slice_set (slice_set room 19 x) 20 y) ≡ 35 ∷ (decimal k.hundreds ++ x ∷ y ∷ 10 ∷ [])
kept-digits room start hundred x y k h =
    let front = 35 ∷ decimal k.hundreds in
    let long : length (drop start room) ≡ length (front ++ k.tens ∷ k.ones ∷ 10 ∷ []) = ap length k.text in
    let sum = length-append front (k.tens ∷ k.ones ∷ 10 ∷ []) in
    let all = length-drop start room in
    let w : start ≤ 22 = k.within in
    let at : 19 ≡ start + length front = omega (arith, long, sum, all) in
    let next : 20 ≡ start + suc (length front) = omega (arith, at) in
    ap (λ i. drop start (slice_set (slice_set room i x) 20 y)) at
    ∙ ap (λ i. drop start (slice_set (slice_set room (start + length front) x) i y)) next
    ∙ drop-set-add start (slice_set room (start + length front) x) (suc (length front)) y
    ∙ ap (λ l. slice_set l (suc (length front)) y) (drop-set-add start room (length front) x)
    ∙ ap (λ l. slice_set (slice_set l (length front) x) (suc (length front)) y) k.text
    ∙ set-middle front k.tens k.ones x y (10 ∷ [])

-- the line of another clock of the hundred
pub kept-line : (room : List ℕ) (start hundred last : ℕ) → IsKept room start hundred → length room ≡ 22 → last < 100 → hundred + last < 2 ^ 64 → drop start (slice_set (slice_set room 19 (48 + last / 10)) 20 (48 + last % 10)) ≡ clock_line (hundred + last)
kept-line room start hundred last k h low high =
    let whole : hundred ≡ 100 * k.hundreds = k.whole in
    let some : 1 ≤ k.hundreds = k.some in
    let q : k.hundreds ≡ (hundred + last) / 100 = omega arith in
    let r : last ≡ (hundred + last) % 100 = omega arith in
    kept-digits room start hundred (48 + last / 10) (48 + last % 10) k h
    ∙ ap (λ n. 35 ∷ (decimal n ++ (48 + last / 10) ∷ (48 + last % 10) ∷ 10 ∷ [])) q
    ∙ ap (λ n. 35 ∷ (decimal ((hundred + last) / 100) ++ (48 + n / 10) ∷ (48 + n % 10) ∷ 10 ∷ [])) r
    ∙ sym (clock_line-pair (hundred + last) (omega arith) high)

-- it is kept
pub kept-still : (room : List ℕ) (start hundred x y : ℕ) → IsKept room start hundred → length room ≡ 22 → IsKept (slice_set (slice_set room 19 x) 20 y) start hundred
kept-still room start hundred x y k h = record {
  hundreds = k.hundreds;
  whole = k.whole;
  some = k.some;
  within = k.within;
  tens = x;
  ones = y;
  text = kept-digits room start hundred x y k h;
}
