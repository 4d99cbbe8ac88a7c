-- What is kept of a greatest bound, where there is one and where there is none.
use Rattle.std.proofs.Common.{◌≡◌, ℕ, Option, Some, None, unwrap_or, subst}
use Rattle.std.specs.Option.{ForSome}

-- of a bound what holds of its number
pub of_some : (P : ℕ → Type 0) (n : ℕ) → P n → ForSome (Some n) P
of_some P n h x e = subst (λ (o : Option ℕ). P (unwrap_or o n)) e h

-- of no bound anything
pub of_none : (P : ℕ → Type 0) → ForSome None P
of_none P x e = absurd (bad e) where
  bad : None ≡ Some x → ⊥
  bad q = cc
