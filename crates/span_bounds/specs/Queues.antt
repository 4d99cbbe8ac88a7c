-- The numbers that wait in the fourth sweep.
--   Queued           some numbers, and all from a number on
--   IsMore           some numbers and one more, in any order
--   ComesNext        a number is the next to be looked at
--   to_come          how many are still to be looked at
use Rattle.std.specs.Prelude.{◌≡◌, ℕ, ◌+◌, ◌-◌, ◌<◌, ◌⊎◌, List, [], ◌∷◌, length}
use Rattle.span_bounds.specs.Edges.{Among}

-- the numbers that come first, the number from which on all come after them in order, the end of these, and how many first ones
-- there is room for
pub record Queued : Type 0 where
  pub numbers : List ℕ
  pub rest : ℕ
  pub end : ℕ
  pub room : ℕ

-- these numbers and one more, in any order
pub record IsMore (p : ℕ) (w new_w : List ℕ) : Type 0 where
  pub size : length new_w ≡ length w + 1
  pub of_these : (i : ℕ) → Among i new_w → Among i (p ∷ w)
  pub all : (i : ℕ) → Among i (p ∷ w) → Among i new_w

-- a number is the next: one of those that come first, or where there are none the first of the rest
abbrev pub ComesNext : ℕ → (q new_q : Queued) → Type 0
ComesNext p q new_q = (IsMore p new_q.numbers q.numbers × (new_q.rest ≡ q.rest))
    ⊎ (((q.numbers ≡ []) × (new_q.numbers ≡ [])) × (((p ≡ q.rest) × (p < q.end)) × (new_q.rest ≡ q.rest + 1)))

-- how many numbers are still to be looked at
abbrev pub to_come : Queued → ℕ
to_come q = length q.numbers + (q.end - q.rest)
