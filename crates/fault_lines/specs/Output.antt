-- What is known of an output.
use Rattle.std.specs.Prelude.{ℕ, Option, List}

-- what it has taken where it is known, what of this still waits, and its count of faults
pub record Output : Type 0 where
  pub taken : Option (List ℕ)
  pub waiting : List ℕ
  pub faults : ℕ

-- the same, by its parts
abbrev pub output_of : Option (List ℕ) → List ℕ → ℕ → Output
output_of taken waiting faults = record { taken = taken; waiting = waiting; faults = faults }
