-- The numbers that wait in the first three sweeps.
use Rattle.std.specs.Prelude.{ℕ, List}

-- the numbers, and how many there is room for
pub record Stacked : Type 0 where
  pub numbers : List ℕ
  pub room : ℕ
