-- The first number that passes a test, where another test is the same.
use Rattle.std.proofs.Common.{◌≡◌, ℕ, ◌<◌, Bool, false, Option, Some, None, ◌∙◌, arith}
use Rattle.dreq_pacing.specs.Ports.{IsFirst}

-- the same test by another name
pub first_same : (p q : ℕ → Bool) (a : Option ℕ) → ((c : ℕ) → q c ≡ p c) → IsFirst p 0 a → IsFirst q 0 a
first_same p q None same h = λ c le. same c ∙ h c le
first_same p q (Some n) same h = (h.0, same n ∙ h.1, λ c le lt. same c ∙ h.2 c le lt)

-- Two tests are the same as long as the first hasn't passed.
pub first_while : (p q : ℕ → Bool) (a : Option ℕ) → ((n : ℕ) → ((k : ℕ) → k < n → p k ≡ false) → q n ≡ p n) → IsFirst p 0 a → IsFirst q 0 a
first_while p q None same h = λ c le. same c (λ k lt. h k (omega arith)) ∙ h c le
first_while p q (Some n) same h = (
  h.0,
  same n (λ k lt. h.2 k (omega arith) lt) ∙ h.1,
  λ c le lt. same c (λ k below. h.2 k (omega arith) (omega (arith, below, lt))) ∙ h.2 c le lt,
)
