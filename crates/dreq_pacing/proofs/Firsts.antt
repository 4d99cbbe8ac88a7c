-- The first number that passes a test, or one of two tests.
use Rattle.std.proofs.Common.{◌≡◌, ℕ, nat_lt, cond, Bool, true, false, ◌||◌, Option, Some, None, sym, ap, subst, inl, inr, arith}
use Rattle.std.proofs.lemmas.Bool.{cases_lt, or_from, or_left, or_right}
use Rattle.std.proofs.lemmas.Bool.Decides.{nat_tests}
use Rattle.dreq_pacing.specs.Ports.{IsFirst, earlier}

-- the earlier of the first numbers that pass two tests is the first that passes either
pub first_of_two : (p q : ℕ → Bool) (from : ℕ) (a b : Option ℕ) → IsFirst p from a → IsFirst q from b → IsFirst (λ c. p c || q c) from (earlier a b)
first_of_two p q from None None ha hb = λ c le. or_from (p c) (q c) (ha c le) (hb c le)
first_of_two p q from None (Some n) ha hb = (hb.0, or_right (p n) (q n) hb.1, λ c le lt. or_from (p c) (q c) (ha c le) (hb.2 c le lt))
first_of_two p q from (Some m) None ha hb = (ha.0, or_left (p m) (q m) ha.1, λ c le lt. or_from (p c) (q c) (ha.2 c le lt) (hb c le))
first_of_two p q from (Some m) (Some n) ha hb =
    let P : ℕ → Type 0 = λ k. IsFirst (λ c. p c || q c) from (Some k) in
    elim (cases_lt n m) [
      | inl lt ↦ (let e : nat_lt n m ≡ true = grind (arith, nat_tests) in
          subst P (sym (ap (λ (t : Bool). cond t n m) e))
          (hb.0, or_right (p n) (q n) hb.1, λ c le below. or_from (p c) (q c) (ha.2 c le (omega arith)) (hb.2 c le below)))
      | inr ge ↦ (let e : nat_lt n m ≡ false = grind (arith, nat_tests) in
          subst P (sym (ap (λ (t : Bool). cond t n m) e))
          (ha.0, or_left (p m) (q m) ha.1, λ c le below. or_from (p c) (q c) (ha.2 c le below) (hb.2 c le (omega arith))))
    ]
