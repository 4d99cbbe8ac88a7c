-- That what the machines want are writes of pins.
use Rattle.std.proofs.Common.{◌≡◌, ◌==◌, ℕ, true, List, [], ◌∷◌, ◌++◌, arith}
use Rattle.std.proofs.lemmas.Bool.{and_parts}
use Rattle.std.proofs.lemmas.Bool.Decides.{nat_tests}
use Rattle.std.specs.List.{AllByRecursion, list_all}
use Rattle.pin_matrix.specs.Pins.{IsWrite}
use Rattle.sm_registers.specs.Intents.{two_writes}

pub two_of : IsWrite (0, 0) → (writes : List (ℕ × ℕ)) (rest : List (ℕ × ℕ)) → AllByRecursion IsWrite writes → AllByRecursion IsWrite rest → AllByRecursion IsWrite (two_writes writes ++ rest)
two_of none [] rest h k = (none, (none, k))
two_of none (w ∷ []) rest h k = (h.0, (none, k))
two_of none (w ∷ x ∷ more) rest h k = (h.0, (h.1.0, k))

-- no pin is written where no write passes the test for a pin
is_zero : (n : ℕ) → (n == 0) ≡ true → n ≡ 0
is_zero n h = grind (arith, nat_tests)

pub none_written : (writes : List (ℕ × ℕ)) → list_all (λ w. w.0 == 0) writes ≡ true → AllByRecursion (λ w. w.0 ≡ 0) writes
none_written [] h = tt
none_written (w ∷ rest) h =
    let parts = and_parts (w.0 == 0) (list_all (λ w. w.0 == 0) rest) h in (is_zero w.0 parts.0, none_written rest parts.1)
