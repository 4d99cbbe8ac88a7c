-- Which write of a clock counts, pin by pin.
use Rattle.std.proofs.Common.{◌≡◌, ℕ, ◌+◌, ◌-◌, ◌^◌, ◌<◌, ◌≤◌, min, max, cond, eqb, List, [], ◌∷◌, ◌++◌, length, get_or, drop, refl, ap, ◌∙◌, inl, inr, arith, w32, add-one, drop-cons, bit_and, bit_or}
use Rattle.std.proofs.lemmas.Bool.{cases_eq, cond-false}
use Rattle.std.proofs.lemmas.Bool.Decides.{nat_tests}
use Rattle.std.proofs.lemmas.Nat.{or_lt, and_le_l}
use Rattle.std.proofs.lemmas.Nat.Bits.{bit_at_and, bit_at_or, bit_at_not, bit_at-zero, bit_at-lt}
use Rattle.std.proofs.Math.ListN.{drop_of_length-le}
use Rattle.std.specs.Int.{bit_at}
use Rattle.std.specs.List.{AllByRecursion}
use Rattle.pin_matrix.specs.Pins.{IsWrite, IsFree, written, merged, last_of}

-- the first of the writes that are left comes first
pub merged-drop : (old : ℕ) (ws : List (ℕ × ℕ)) (i : ℕ) (d : ℕ × ℕ) → i < length ws → merged old (drop i ws) ≡ merged (written old (get_or ws i d)) (drop (i + 1) ws)
unfolding merged
merged-drop old ws i d more = rw (add-one, drop-cons ws i d) refl

-- none of the writes is left
pub merged-past : (old : ℕ) (ws : List (ℕ × ℕ)) (i : ℕ) → length ws ≤ i → merged old (drop i ws) ≡ old
unfolding merged
merged-past old ws i all = rw (drop_of_length-le ws all) refl

-- on bits, what is written where the pin is held
chosen : (pin bit old : ℕ) → pin < 2 → bit ≤ pin → old < 2 → max bit (min old (1 - pin)) ≡ cond (eqb pin 1) bit old
chosen pin bit old p q r = grind (arith, nat_tests)

-- one write
bit_at-written : (p old : ℕ) (w : ℕ × ℕ) → p < 32 → IsWrite w → bit_at (written old w) p ≡ cond (eqb (bit_at w.0 p) 1) (bit_at w.1 p) (bit_at old p)
bit_at-written p old w inside write =
    elim (cases_eq w.0 0) [
      | inl none ↦ rw none (rw (bit_at-zero p) refl)
      | inr some ↦
          let made : bit_at (bit_or w.1 (bit_and old (2 ^ 32 - 1 - w.0))) p ≡ max (bit_at w.1 p) (min (bit_at old p) (1 - bit_at w.0 p)) =
          bit_at_or w.1 (bit_and old (2 ^ 32 - 1 - w.0)) p
          ∙ ap (max (bit_at w.1 p)) (bit_at_and old (2 ^ 32 - 1 - w.0) p ∙ ap (min (bit_at old p)) (bit_at_not w32 w.0 p write.pins inside)) in
          ap (λ m. bit_at m p) (cond-false (eqb w.0 0) old (bit_or w.1 (bit_and old (2 ^ 32 - 1 - w.0))) (grind (arith, nat_tests))) ∙ made
          ∙ chosen (bit_at w.0 p) (bit_at w.1 p) (bit_at old p) (bit_at-lt w.0 p) (write.within p) (bit_at-lt old p)
    ]

-- All writes.
pub bit_at-merged : (p old : ℕ) (ws : List (ℕ × ℕ)) → p < 32 → AllByRecursion IsWrite ws → bit_at (merged old ws) p ≡ last_of p (bit_at old p) ws
unfolding merged last_of
bit_at-merged p old [] inside writes = refl
bit_at-merged p old (w ∷ ws) inside writes =
    bit_at-merged p (written old w) ws inside writes.1
    ∙ ap (λ b. last_of p b ws) (bit_at-written p old w inside writes.0)

pub last_of-none : (p old : ℕ) (ws : List (ℕ × ℕ)) → AllByRecursion (IsFree p) ws → last_of p old ws ≡ old
unfolding last_of
last_of-none p old [] free = refl
last_of-none p old (w ∷ ws) free = rw free.0 (last_of-none p old ws free.1)

pub last_of-last : (p old : ℕ) (before : List (ℕ × ℕ)) (w : ℕ × ℕ) (after : List (ℕ × ℕ)) → bit_at w.0 p ≡ 1 → AllByRecursion (IsFree p) after → last_of p old (before ++ w ∷ after) ≡ bit_at w.1 p
unfolding last_of
last_of-last p old [] w after holds free = rw (last_of, holds) (last_of-none p (bit_at w.1 p) after free)
last_of-last p old (v ∷ before) w after holds free = last_of-last p (cond (eqb (bit_at v.0 p) 1) (bit_at v.1 p) old) before w after holds free

pub merged-none : (old : ℕ) (ws : List (ℕ × ℕ)) → AllByRecursion (λ w. w.0 ≡ 0) ws → merged old ws ≡ old
unfolding merged
merged-none old [] none = refl
merged-none old (w ∷ ws) none = rw none.0 (merged-none old ws none.1)

-- no pins, no bits
pub IsWrite-none : IsWrite (0, 0)
IsWrite-none = record { pins = omega arith; bits = omega arith; within = λ p. omega arith }

written-lt : (old : ℕ) (w : ℕ × ℕ) → old < 2 ^ 32 → IsWrite w → written old w < 2 ^ 32
written-lt old w word write =
    elim (cases_eq w.0 0) [
      | inl none ↦ rw none word
      | inr some ↦
          rw (cond-false (eqb w.0 0) old (bit_or w.1 (bit_and old (2 ^ 32 - 1 - w.0))) (grind (arith, nat_tests)))
          (or_lt 32 w.1 (bit_and old (2 ^ 32 - 1 - w.0)) write.bits (omega (arith, and_le_l old (2 ^ 32 - 1 - w.0))))
    ]

-- Pins stay pins.
pub merged-lt : (old : ℕ) (ws : List (ℕ × ℕ)) → old < 2 ^ 32 → AllByRecursion IsWrite ws → merged old ws < 2 ^ 32
unfolding merged
merged-lt old [] word writes = word
merged-lt old (w ∷ ws) word writes = merged-lt (written old w) ws (written-lt old w word writes.0) writes.1
