-- Ticks in a row that take no word and leave the line at one level.
--   Keeps            so many ticks do
use Rattle.std.proofs.Common.{◌≡◌, ℕ, ◌+◌, ◌-◌, ◌<◌, inl, inr, Option, None, ap, ◌∙◌, arith}
use Rattle.std.proofs.lemmas.Bool.{cases_lt}

-- so many ticks from one on take nothing, and after each the level is this one
pub record Keeps (levels : ℕ → ℕ) (taken : ℕ → Option ℕ) (t n level : ℕ) : Type 0 where
  pub levels_are : (j : ℕ) → j < n → levels (t + j + 1) ≡ level
  pub nothing : (j : ℕ) → j < n → taken (t + j) ≡ None

pub keeps-join : (levels : ℕ → ℕ) (taken : ℕ → Option ℕ) (t a b level : ℕ) → Keeps levels taken t a level → Keeps levels taken (t + a) b level → Keeps levels taken t (a + b) level
keeps-join levels taken t a b level h k = record { levels_are = level_at; nothing = none_at } where
  level_at : (j : ℕ) → j < a + b → levels (t + j + 1) ≡ level
  level_at j l = elim (cases_lt j a) [
    | inl first ↦ h.levels_are j first
    | inr second ↦ ap levels (let e : t + j + 1 ≡ t + a + (j - a) + 1 = omega (arith, second) in e) ∙ k.levels_are (j - a) (omega (arith, second, l))
  ]

  none_at : (j : ℕ) → j < a + b → taken (t + j) ≡ None
  none_at j l = elim (cases_lt j a) [
    | inl first ↦ h.nothing j first
    | inr second ↦ ap taken (let e : t + j ≡ t + a + (j - a) = omega (arith, second) in e) ∙ k.nothing (j - a) (omega (arith, second, l))
  ]

pub keeps-one : (levels : ℕ → ℕ) (taken : ℕ → Option ℕ) (t level : ℕ) → levels (t + 1) ≡ level → taken t ≡ None → Keeps levels taken t 1 level
keeps-one levels taken t level e f = record { levels_are = λ j l. ap levels (let q : t + j + 1 ≡ t + 1 = omega (arith, l) in q) ∙ e; nothing = λ j l. ap taken (let q : t + j ≡ t = omega (arith, l) in q) ∙ f }
