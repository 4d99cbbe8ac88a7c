-- Bits as tests.
use Rattle.std.proofs.Common.{◌≡◌, ◌∙◌, ℕ, ◌+◌, ◌-◌, ◌*◌, ◌%◌, ◌^◌, ◌<◌, ◌==◌, min, max, Bool, true, false, not, ◌&&◌, ◌||◌, cond, refl, sym, ap, inl, inr, arith, bit_and, bit_or, w8}
use Rattle.std.proofs.lemmas.Bool.{cases_eq, or_left, or_right}
use Rattle.std.proofs.lemmas.Bool.Decides.{nat_tests}
use Rattle.std.proofs.lemmas.Nat.Bits.{bit_at_and, bit_at_or, bit_at_not, bit_at-zero, bit_at-lt, bit_at-pow_same, bit_at_ones}
use Rattle.std.specs.Int.{bit_at}
use Rattle.irq_flags.specs.Flags.{flag_of, lowered_flags, merged_flags}
use Rattle.block_shares.specs.Acts.{has}

-- by a test's two answers
pub by_test : (P : Bool → Type 0) (b : Bool) → (b ≡ true → P true) → (b ≡ false → P false) → P b
by_test P true t f = t refl
by_test P false t f = f refl

one_bit : (x y : ℕ) → x < 2 → y < 2 → (x == 1) ≡ (y == 1) → x ≡ y
one_bit x y p q h = grind (arith, nat_tests)

-- the same as numbers
pub bits_same : (x y i : ℕ) → has x i ≡ has y i → bit_at x i ≡ bit_at y i
bits_same x y i h = one_bit (bit_at x i) (bit_at y i) (bit_at-lt x i) (bit_at-lt y i) h

pub has_same : (x y i : ℕ) → bit_at x i ≡ bit_at y i → has x i ≡ has y i
has_same x y i h = ap (λ (b : ℕ). b == 1) h

up : (x : ℕ) → x < 2 → (x == 1) ≡ true → x ≡ 1
up x p h = grind (arith, nat_tests)

down : (x : ℕ) → x < 2 → (x == 1) ≡ false → x ≡ 0
down x p h = grind (arith, nat_tests)

pub bit_up : (x i : ℕ) → has x i ≡ true → bit_at x i ≡ 1
bit_up x i h = up (bit_at x i) (bit_at-lt x i) h

pub bit_down : (x i : ℕ) → has x i ≡ false → bit_at x i ≡ 0
bit_down x i h = down (bit_at x i) (bit_at-lt x i) h

pub has_down : (x i : ℕ) → bit_at x i ≡ 0 → has x i ≡ false
has_down x i h = ap (λ (b : ℕ). b == 1) h

pub has_zero : (i : ℕ) → has 0 i ≡ false
has_zero i = has_down 0 i (bit_at-zero i)

either : (x y : ℕ) → x < 2 → y < 2 → (max x y == 1) ≡ ((x == 1) || (y == 1))
either x y p q =
    elim (cases_eq x 0) [
      | inl e ↦ rw e (let m : max 0 y ≡ y = omega arith in rw m refl)
      | inr e ↦ let one : x ≡ 1 = omega arith in rw one (let m : max 1 y ≡ 1 = omega arith in rw m refl)
    ]

pub has_or : (a b i : ℕ) → has (bit_or a b) i ≡ (has a i || has b i)
has_or a b i = ap (λ (x : ℕ). x == 1) (bit_at_or a b i) ∙ either (bit_at a i) (bit_at b i) (bit_at-lt a i) (bit_at-lt b i)

pub has_or_left : (a b i : ℕ) → has a i ≡ true → has (bit_or a b) i ≡ true
has_or_left a b i h = has_or a b i ∙ or_left (has a i) (has b i) h

pub has_or_right : (a b i : ℕ) → has b i ≡ true → has (bit_or a b) i ≡ true
has_or_right a b i h = has_or a b i ∙ or_right (has a i) (has b i) h

pub has_own : (k : ℕ) → has (2 ^ k) k ≡ true
has_own k = ap (λ (x : ℕ). x == 1) (bit_at-pow_same k)

-- all of n bits
pub has_ones : (n i : ℕ) → i < n → has (2 ^ n - 1) i ≡ true
has_ones n i h = ap (λ (x : ℕ). x == 1) (bit_at_ones n i h)

-- two sets without a common bit
apart : (x y : ℕ) → x < 2 → y < 2 → min x y ≡ 0 → (y == 1) ≡ true → (x == 1) ≡ false
apart x y p q h k = grind (arith, nat_tests)

pub has_apart : (a b i : ℕ) → bit_and a b ≡ 0 → has b i ≡ true → has a i ≡ false
has_apart a b i h k =
    apart (bit_at a i) (bit_at b i) (bit_at-lt a i) (bit_at-lt b i) (sym (bit_at_and a b i) ∙ (ap (λ (x : ℕ). bit_at x i) h ∙ bit_at-zero i)) k

-- the flags after a clock, one by one
chosen : (set clear old : ℕ) → set < 2 → clear < 2 → old < 2 → (max set (min old (1 - clear)) == 1) ≡ ((set == 1) || ((old == 1) && not (clear == 1)))
chosen set clear old p q r =
    elim (cases_eq set 0) [
      | inr e ↦ let one : set ≡ 1 = omega arith in rw one (let m : max 1 (min old (1 - clear)) ≡ 1 = omega arith in rw m refl)
      | inl e ↦ rw e (elim (cases_eq old 0) [
        | inl f ↦ rw f (let m : max 0 (min 0 (1 - clear)) ≡ 0 = omega arith in rw m refl)
        | inr f ↦ let one : old ≡ 1 = omega arith in rw one (elim (cases_eq clear 0) [
          | inl g ↦ rw g refl
          | inr g ↦ let up : clear ≡ 1 = omega arith in rw up refl
        ])
      ])
    ]

lowered : (up clears i : ℕ) → clears < 2 ^ 8 → i < 8 → bit_at (lowered_flags up clears) i ≡ min (bit_at up i) (1 - bit_at clears i)
lowered up clears i below inside =
    let masked = bit_at_and up (2 ^ 8 - 1 - clears) i ∙ ap (min (bit_at up i)) (bit_at_not w8 clears i below inside) in
    let bit = bit_at-lt up i in
    elim (cases_eq clears 0) [
      | inl none ↦ rw none (rw (bit_at-zero i) (omega arith))
      | inr some ↦ grind (arith, nat_tests)
    ]

pub has_merged : (up clears sets i : ℕ) → clears < 2 ^ 8 → i < 8 → has (merged_flags up clears sets) i ≡ (has sets i || (has up i && not (has clears i)))
has_merged up clears sets i below inside =
    ap (λ (x : ℕ). x == 1) (bit_at_or sets (lowered_flags up clears) i ∙ ap (max (bit_at sets i)) (lowered up clears i below inside))
    ∙ chosen (bit_at sets i) (bit_at clears i) (bit_at up i) (bit_at-lt sets i) (bit_at-lt clears i) (bit_at-lt up i)

-- a flag's number
pub flag_lt : (index machine : ℕ) → flag_of index machine < 8
flag_lt index machine =
    let b = bit_at-lt index 2 in
    by_test (λ t. cond t (bit_at index 2 * 4 + (index % 4 + machine) % 4) (index % 8) < 8) (bit_at index 4 == 1) (λ h. omega arith) (λ h. omega arith)
