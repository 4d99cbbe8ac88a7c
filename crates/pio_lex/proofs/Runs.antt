-- How far bytes of a kind reach, as a search for the first that isn't.
use Rattle.std.proofs.Common.{◌≡◌, ℕ, ◌+◌, ◌≤◌, Bool, true, false, cond, not, ltb, List, [], ◌∷◌, length, Some, None, refl, ap, arith}
use Rattle.std.specs.Prelude.{unwrap_or}
use Rattle.std.specs.List.{prefix_len, position, position_or_len}
use Rattle.std.proofs.lemmas.Bool.{ltb-false}
use Rattle.std.proofs.lemmas.List.Sums.{prefix_len-le-length}

-- the place of the first that fails is the length of the run that passes
pub failing : {X : Type 0} (p : X → Bool) (xs : List X) → position_or_len (λ x. not (p x)) xs ≡ prefix_len p xs
failing p [] = refl
failing p (x ∷ xs) = failing_by (p x) (failing p xs) where
  failing_by : (b : Bool) {m n : ℕ} → m ≡ n → cond (not (not b)) (1 + m) 0 ≡ cond b (1 + n) 0
  failing_by true e = ap (λ k. 1 + k) e
  failing_by false e = refl

found : (n len : ℕ) → n ≤ len → unwrap_or (cond (ltb n len) (Some n) None) len ≡ n
found n len le = found_by (ltb n len) refl where
  found_by : (b : Bool) → ltb n len ≡ b → unwrap_or (cond b (Some n) None) len ≡ n
  found_by true e = refl
  found_by false e = let h = ltb-false n len e in omega arith

-- what a search gives, or the length
pub first_or_end : {X : Type 0} (p : X → Bool) (xs : List X) → unwrap_or (position p xs) (length xs) ≡ position_or_len p xs
first_or_end p xs = found (position_or_len p xs) (length xs) (prefix_len-le-length (λ x. not (p x)) xs)
