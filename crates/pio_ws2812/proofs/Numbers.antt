-- Numbers: cases, tests, and products with the clocks of a tick.
use Rattle.std.proofs.Common.{◌≡◌, ◌==◌, ℕ, suc, ◌+◌, ◌*◌, ◌≤◌, false, arith}
use Rattle.std.proofs.lemmas.Bool.Decides.{nat_tests}

pub is_some : (n : ℕ) → (n == 0) ≡ false → 1 ≤ n
is_some n h = grind (arith, nat_tests)

pub not_zero : (n : ℕ) → 1 ≤ n → (n == 0) ≡ false
not_zero n h = grind (arith, nat_tests)

pub suc_mul : (int k : ℕ) → suc k * int ≡ k * int + int
suc_mul int k = grind arith

pub mul_add : (int a b : ℕ) → int * (a + b) ≡ int * a + b * int
mul_add int a b = grind arith
