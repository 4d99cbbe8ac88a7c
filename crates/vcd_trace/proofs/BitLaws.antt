-- Laws of the changed bits of a word, taken one by one from the lowest on.
use Rattle.std.proofs.Common.{◌≡◌, ℕ, ◌+◌, ◌-◌, ◌/◌, ◌%◌, ◌^◌, ◌<◌, ◌≤◌, ◌++◌, zero, suc, sym, ap, ◌∙◌, inl, inr, bit_and, bit_xor, w32, arith}
use Rattle.std.specs.Int.{bit_at, trailing_zeros}
use Rattle.std.proofs.lemmas.Bool.{cases_lt}
use Rattle.std.proofs.lemmas.Nat.Bits.{bit_at_lowest, bit_at-suc, bit_at_xor, bit_at-lt, bit_at_above, bit_at-trailing_zeros, same_from_bits}
use Rattle.vcd_trace.specs.VcdText.{bit_line}
use Rattle.vcd_trace.specs.Groups.{bit_changes}
use Rattle.sample_trace.proofs.BitLaws.{cleared_low, cleared_high}
use Rattle.vcd_trace.proofs.TextLaws.{no_line, one_line, bit_changes-step}

undone : (x y : ℕ) → x < 2 → y < 2 → ((x + y) % 2 + y) % 2 ≡ x
undone x y h k = omega arith

-- a word that is laid over another twice is gone
pub xor_twice : (a b : ℕ) → bit_xor (bit_xor a b) b ≡ a
xor_twice a b =
    same_from_bits (bit_xor (bit_xor a b) b) a
    (λ i. bit_at_xor (bit_xor a b) b i ∙ ap (λ x. (x + bit_at b i) % 2) (bit_at_xor a b i) ∙ undone (bit_at a i) (bit_at b i) (bit_at-lt a i) (bit_at-lt b i))

-- the lowest 1 is among the bits of a number
pub lowest_within : (n k : ℕ) → 0 < n → n < 2 ^ 32 → n < 2 ^ k → trailing_zeros w32 n < k
lowest_within n k h f w =
    let lowest = bit_at-trailing_zeros w32 n h f in
    elim (cases_lt (trailing_zeros w32 n) k) [
      | inl below ↦ below
      | inr above ↦ let none : bit_at n (trailing_zeros w32 n) ≡ 0 = bit_at_above n k (trailing_zeros w32 n) w above in absurd (omega (arith, none, lowest.1))
    ]

-- a lowest bit that stays has no line
lowest_stays : (id more a now : ℕ) → bit_at a 0 ≡ bit_at now 0 → bit_changes id (suc more) a now ≡ bit_changes (id + 1) more (a / 2) (now / 2)
lowest_stays id more a now h =
    bit_changes-step id more a now
    ∙ ap (λ x. x ++ bit_changes (id + 1) more (a / 2) (now / 2)) (no_line (a % 2) (now % 2) (bit_line id (now % 2)) (sym (bit_at_lowest a) ∙ h ∙ bit_at_lowest now))

-- the first bit that differs, at p, has its line, and after it the text is that of any word b that differs after it only, and as a does
line_at : (p id count a b now : ℕ) → p < count → ((i : ℕ) → i < p → bit_at a i ≡ bit_at now i) → (bit_at a p ≡ bit_at now p → ⊥) → ((i : ℕ) → i ≤ p → bit_at b i ≡ bit_at now i) → ((i : ℕ) → p < i → bit_at b i ≡ bit_at a i) → bit_changes id count a now ≡ bit_line (id + p) (bit_at now p) ++ bit_changes id count b now
line_at p id zero a b now h below at passed kept = absurd (omega arith)
line_at zero id (suc more) a b now h below at passed kept =
    let same : b / 2 ≡ a / 2 = same_from_bits (b / 2) (a / 2) (λ i. sym (bit_at-suc b i) ∙ kept (suc i) (omega arith) ∙ bit_at-suc a i) in
    bit_changes-step id more a now
    ∙ ap (λ x. x ++ bit_changes (id + 1) more (a / 2) (now / 2)) (one_line (a % 2) (now % 2) (bit_line id (now % 2)) (λ e. at (bit_at_lowest a ∙ e ∙ sym (bit_at_lowest now))))
    ∙ ap (λ x. bit_line id (now % 2) ++ bit_changes (id + 1) more x (now / 2)) (sym same)
    ∙ ap (λ x. bit_line id (now % 2) ++ x) (sym (lowest_stays id more b now (passed 0 (omega arith))))
    ∙ ap (λ x. bit_line id x ++ bit_changes id (suc more) b now) (sym (bit_at_lowest now))
    ∙ ap (λ i. bit_line i (bit_at now 0) ++ bit_changes id (suc more) b now) (let e : id ≡ id + 0 = omega arith in e)
line_at (suc p) id (suc more) a b now h below at passed kept =
    lowest_stays id more a now (below 0 (omega arith))
    ∙ line_at p (id + 1) more (a / 2) (b / 2) (now / 2) (omega arith)
    (λ i k. sym (bit_at-suc a i) ∙ below (suc i) (omega arith) ∙ bit_at-suc now i)
    (λ e. at (bit_at-suc a p ∙ e ∙ sym (bit_at-suc now p)))
    (λ i k. sym (bit_at-suc b i) ∙ passed (suc i) (omega arith) ∙ bit_at-suc now i)
    (λ i k. sym (bit_at-suc b i) ∙ kept (suc i) (omega arith) ∙ bit_at-suc a i)
    ∙ ap (λ x. bit_line (id + 1 + p) (bit_at (now / 2) p) ++ x) (sym (lowest_stays id more b now (passed 0 (omega arith))))
    ∙ ap (λ x. bit_line (id + 1 + p) x ++ bit_changes id (suc more) b now) (sym (bit_at-suc now p))
    ∙ ap (λ i. bit_line i (bit_at now (suc p)) ++ bit_changes id (suc more) b now) (let e : id + 1 + p ≡ id + suc p = omega arith in e)

stays : (x y : ℕ) → x ≡ 0 → y < 2 → (x + y) % 2 ≡ y
stays x y e h = omega arith

differs : (x y : ℕ) → x ≡ 1 → y < 2 → (x + y) % 2 ≡ y → ⊥
differs x y e h k = omega arith

xor_stays : (n now i : ℕ) → bit_at n i ≡ 0 → bit_at (bit_xor n now) i ≡ bit_at now i
xor_stays n now i e = bit_at_xor n now i ∙ stays (bit_at n i) (bit_at now i) e (bit_at-lt now i)

-- the line of the lowest changed bit, then those of the others
pub changed_bits-next : (first count changed now : ℕ) → 0 < changed → changed < 2 ^ 32 → changed < 2 ^ count → bit_changes first count (bit_xor changed now) now ≡ bit_line (first + trailing_zeros w32 changed) (bit_at now (trailing_zeros w32 changed)) ++ bit_changes first count (bit_xor (bit_and changed (changed - 1)) now) now
changed_bits-next first count n now h f w =
    let p : ℕ = trailing_zeros w32 n in
    let m : ℕ = bit_and n (n - 1) in
    let lowest = bit_at-trailing_zeros w32 n h f in
    line_at p first count (bit_xor n now) (bit_xor m now) now (lowest_within n count h f w)
    (λ i k. xor_stays n now i (lowest.2 i k))
    (λ e. differs (bit_at n p) (bit_at now p) lowest.1 (bit_at-lt now p) (sym (bit_at_xor n now p) ∙ e))
    (λ i k. xor_stays m now i (cleared_low n p i lowest.1 lowest.2 k))
    (λ i k. bit_at_xor m now i ∙ ap (λ x. (x + bit_at now i) % 2) (cleared_high n p i lowest.1 lowest.2 k) ∙ sym (bit_at_xor n now i))
