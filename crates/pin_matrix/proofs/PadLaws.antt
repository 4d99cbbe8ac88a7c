-- What is on the pads and what a machine sees, pin by pin and over the whole history.
use Rattle.std.proofs.Common.{◌≡◌, ℕ, ◌-◌, ◌^◌, ◌<◌, min, max, cond, eqb, List, [], ◌∷◌, length, refl, sym, ap, ◌∙◌, inl, inr, arith, w32, if◌then◌else◌, slice_index_or, ◌==◌, bit_and, bit_or, Bool, true, false}
use Rattle.std.proofs.lemmas.Bool.{cases_eq, cond-false}
use Rattle.std.proofs.lemmas.Bool.Decides.{nat_tests}
use Rattle.std.proofs.lemmas.Nat.{or_lt, and_le_l}
use Rattle.std.proofs.lemmas.Nat.Bits.{bit_at_and, bit_at_or, bit_at_not, bit_at-zero, bit_at-lt, same_from_bits_below}
use Rattle.std.specs.Int.{bit_at}
use Rattle.pin_matrix.specs.Pads.{Synchroniser, pads_of, seen_of, first_synchroniser, stepped, after_pads, one_clock_ago, two_clocks_ago}

-- on bits, one of two by a third
chosen : (by one other : ℕ) → by < 2 → one < 2 → other < 2 → max (min one by) (min other (1 - by)) ≡ cond (eqb by 1) one other
chosen by one other p q r = grind (arith, nat_tests)

chosen_late : (by now late : ℕ) → by < 2 → now < 2 → late < 2 → max (min late (1 - by)) (min now by) ≡ cond (eqb by 1) now late
chosen_late by now late p q r = grind (arith, nat_tests)

masked : (word mask p : ℕ) → mask < 2 ^ 32 → p < 32 → min (bit_at word p) (1 - bit_at mask p) ≡ min (bit_at word p) (bit_at (2 ^ 32 - 1 - mask) p)
masked word mask p below inside = ap (min (bit_at word p)) (sym (bit_at_not w32 mask p below inside))

-- The pads.
pub bit_at-pads_of : (level direction outside p : ℕ) → direction < 2 ^ 32 → p < 32 → bit_at (pads_of level direction outside) p ≡ (if bit_at direction p == 1 then bit_at level p else bit_at outside p)
bit_at-pads_of level direction outside p below inside =
    bit_at_or _ _ p ∙ ap (λ m. max m (bit_at (bit_and outside (2 ^ 32 - 1 - direction)) p)) (bit_at_and level direction p)
    ∙ ap (max (min (bit_at level p) (bit_at direction p))) (bit_at_and outside (2 ^ 32 - 1 - direction) p ∙ sym (masked outside direction p below inside))
    ∙ chosen (bit_at direction p) (bit_at level p) (bit_at outside p) (bit_at-lt direction p) (bit_at-lt level p) (bit_at-lt outside p)

pub pads_of-lt : (level direction outside : ℕ) → level < 2 ^ 32 → outside < 2 ^ 32 → pads_of level direction outside < 2 ^ 32
pads_of-lt level direction outside p q =
    or_lt 32 (bit_and level direction) (bit_and outside (2 ^ 32 - 1 - direction))
    (omega (arith, and_le_l level direction)) (omega (arith, and_le_l outside (2 ^ 32 - 1 - direction)))

-- What a machine sees.
pub bit_at-seen_of : (bypass pad pad_2 p : ℕ) → bypass < 2 ^ 32 → p < 32 → bit_at (seen_of bypass pad pad_2) p ≡ cond (bit_at bypass p == 1) (bit_at pad p) (bit_at pad_2 p)
bit_at-seen_of bypass pad pad_2 p below inside =
    elim (cases_eq bypass 0) [
      | inl none ↦ rw none (rw (bit_at-zero p) refl)
      | inr some ↦
          ap (λ m. bit_at m p) (cond-false (eqb bypass 0) pad_2 (bit_or (bit_and pad_2 (2 ^ 32 - 1 - bypass)) (bit_and pad bypass)) (grind (arith, nat_tests)))
          ∙ bit_at_or (bit_and pad_2 (2 ^ 32 - 1 - bypass)) (bit_and pad bypass) p
          ∙ ap (λ m. max m (bit_at (bit_and pad bypass) p)) (bit_at_and pad_2 (2 ^ 32 - 1 - bypass) p ∙ sym (masked pad_2 bypass p below inside))
          ∙ ap (max (min (bit_at pad_2 p) (1 - bit_at bypass p))) (bit_at_and pad bypass p)
          ∙ chosen_late (bit_at bypass p) (bit_at pad p) (bit_at pad_2 p) (bit_at-lt bypass p) (bit_at-lt pad p) (bit_at-lt pad_2 p)
    ]

same : (b : Bool) (x : ℕ) → cond b x x ≡ x
same true x = refl
same false x = refl

pub seen_of-lt : (bypass pad pad_2 : ℕ) → pad < 2 ^ 32 → pad_2 < 2 ^ 32 → seen_of bypass pad pad_2 < 2 ^ 32
seen_of-lt bypass pad pad_2 p q =
    elim (cases_eq bypass 0) [
      | inl none ↦ rw none q
      | inr some ↦
          rw (cond-false (eqb bypass 0) pad_2 (bit_or (bit_and pad_2 (2 ^ 32 - 1 - bypass)) (bit_and pad bypass)) (grind (arith, nat_tests)))
          (or_lt 32 (bit_and pad_2 (2 ^ 32 - 1 - bypass)) (bit_and pad bypass)
          (omega (arith, and_le_l pad_2 (2 ^ 32 - 1 - bypass))) (omega (arith, and_le_l pad bypass)))
    ]

-- Where the pads are those of two clocks ago, a machine sees them.
pub seen_of-same : (bypass pad : ℕ) → bypass < 2 ^ 32 → pad < 2 ^ 32 → seen_of bypass pad pad ≡ pad
seen_of-same bypass pad below word =
    same_from_bits_below 32 (seen_of bypass pad pad) pad (seen_of-lt bypass pad pad word word) word
    (λ p inside. bit_at-seen_of bypass pad pad p below inside ∙ same (bit_at bypass p == 1) (bit_at pad p))

-- two words held, and the pads since
pub after_pads-from : (s : Synchroniser) (d : ℕ) (pads : List ℕ) → after_pads pads s ≡ record { pad_1 = slice_index_or (s.pad_1 ∷ pads) (length pads) d; pad_2 = slice_index_or (s.pad_2 ∷ s.pad_1 ∷ pads) (length pads) d; bypass = s.bypass }
unfolding after_pads
after_pads-from s d [] = refl
after_pads-from s d (pad ∷ pads) = after_pads-from (stepped pad s) d pads

-- What the synchronisers hold after clocks with any pads.
pub after_pads-first : (before bypass : ℕ) (pads : List ℕ) → after_pads pads (first_synchroniser before bypass) ≡ record { pad_1 = one_clock_ago before pads; pad_2 = two_clocks_ago before pads; bypass = bypass }
after_pads-first before bypass pads = after_pads-from (first_synchroniser before bypass) before pads

-- What a machine sees after clocks with any pads.
pub bit_at-seen : (before bypass pad p : ℕ) (pads : List ℕ) → bypass < 2 ^ 32 → p < 32 → bit_at (seen_of bypass pad (after_pads pads (first_synchroniser before bypass)).pad_2) p ≡ cond (bit_at bypass p == 1) (bit_at pad p) (bit_at (two_clocks_ago before pads) p)
bit_at-seen before bypass pad p pads below inside =
    ap (λ (s : Synchroniser). bit_at (seen_of bypass pad s.pad_2) p) (after_pads-first before bypass pads)
    ∙ bit_at-seen_of bypass pad (two_clocks_ago before pads) p below inside
