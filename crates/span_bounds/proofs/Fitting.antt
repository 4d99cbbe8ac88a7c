-- How many contexts there may be: what a span assumes has few enough pairs of X and Y.
use Rattle.std.proofs.Common.{◌≡◌, ℕ, ◌+◌, ◌-◌, ◌*◌, ◌/◌, ◌^◌, ◌<◌, ◌≤◌, ◌⊎◌, max, true, List, inl, inr, arith, mul-le-mul, mul-le-mul_right, div-mul-le_self}
use Rattle.std.proofs.lemmas.Bool.{and_parts, cases_lt, leb-true}
use Rattle.pin_matrix.specs.declared.assume.Assumption.{Assumption}
use Rattle.pin_matrix.specs.Assumptions.{are_assumptions, are_few, are_few_pairs, follow_of, most_x, most_y, usual_beside}
use Rattle.span_bounds.specs.Numbers.{contexts}

-- a register that is followed as far as the pairs fit beside another
beside : (m n u : ℕ) → m < u → u ≤ 2 ^ 17 / (n + 2) - 2 → (u + 2) * (n + 2) ≤ 2 ^ 17
beside m n u l h =
    let fits : u + 2 ≤ 2 ^ 17 / (n + 2) = omega arith in
    let low = mul-le-mul_right (n + 2) fits in
    let high = div-mul-le_self (2 ^ 17) (n + 2) in
    omega (arith, low, high)

turned : (a b : ℕ) → a * b ≡ b * a
turned a b = omega arith

small : (u v : ℕ) → u ≤ 31 → v ≤ 31 → (u + 2) * (v + 2) ≤ 2 ^ 17
small u v h k =
    let p : u + 2 ≤ 33 = omega arith in
    let q : v + 2 ≤ 33 = omega arith in
    let b : (u + 2) * (v + 2) ≤ 33 * 33 = mul-le-mul p q in omega (arith, b)

pairs : (x y : ℕ) → (x + 2) * (y + 2) ≤ 2 ^ 17 → (max x (usual_beside y) + 2) * (max y (usual_beside x) + 2) ≤ 2 ^ 17
pairs x y h = on (cases_lt x (usual_beside y)) (cases_lt y (usual_beside x)) where
  on : (x < usual_beside y) ⊎ (usual_beside y ≤ x) → (y < usual_beside x) ⊎ (usual_beside x ≤ y) → (max x (usual_beside y) + 2) * (max y (usual_beside x) + 2) ≤ 2 ^ 17
  on (inl p) (inl q) =
      let a : max x (usual_beside y) ≡ usual_beside y = omega arith in
      let b : max y (usual_beside x) ≡ usual_beside x = omega arith in
      rw (a, b) (small (usual_beside y) (usual_beside x) (omega arith) (omega arith))
  on (inl p) (inr q) =
      let a : max x (usual_beside y) ≡ usual_beside y = omega arith in
      let b : max y (usual_beside x) ≡ y = omega arith in
      rw (a, b) (beside x y (usual_beside y) p (omega arith))
  on (inr p) (inl q) =
      let a : max x (usual_beside y) ≡ x = omega arith in
      let b : max y (usual_beside x) ≡ usual_beside x = omega arith in
      rw (a, b, turned (x + 2) (usual_beside x + 2)) (beside y x (usual_beside x) q (omega arith))
  on (inr p) (inr q) =
      let a : max x (usual_beside y) ≡ x = omega arith in
      let b : max y (usual_beside x) ≡ y = omega arith in
      rw (a, b) h

fit : (x y : ℕ) → x * y ≤ 2 ^ 17 → 4 * (y * (x * 32)) ≤ 2 ^ 24
fit x y h = let e : y * (x * 32) ≡ x * y * 32 = omega arith in omega arith

-- they are numbers of 25 bits
pub contexts_fit : (items : List Assumption) → are_assumptions items ≡ true → contexts (follow_of items) ≤ 2 ^ 24
unfolding contexts follow_of
contexts_fit items h = fit _ _ (pairs (most_x items) (most_y items) (leb-true _ _ (and_parts (are_few items) (are_few_pairs (most_x items) (most_y items)) h).1))
