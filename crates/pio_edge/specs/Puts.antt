-- What is between puts that are made one after the other: what was taken so far, and what is left to put.
use Rattle.std.specs.Prelude.{◌≡◌, ℕ, Option, List, ◌++◌}
use Rattle.pio_edge.specs.Edge.{with_bytes}

-- of the whole text a first part was taken since the old value, and the rest is still to be put: a loop's invariant
pub record Going (old now : Option (List ℕ)) (whole rest : List ℕ) : Type 0 where
  pub done : List ℕ
  pub taken : now ≡ with_bytes old done
  pub all : done ++ rest ≡ whole
