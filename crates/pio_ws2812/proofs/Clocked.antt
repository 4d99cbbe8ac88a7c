-- From ticks to clocks: a bit and a wait in the levels after each clock.
use Rattle.std.proofs.Common.{◌≡◌, ℕ, zero, suc, ◌+◌, ◌-◌, ◌*◌, ◌<◌, inl, inr, Bool, ap, ◌∙◌, arith}
use Rattle.std.proofs.Math.Nat.{mul-add}
use Rattle.std.proofs.lemmas.Bool.{cases_lt}
use Rattle.pio_ws2812.proofs.Numbers.{suc_mul}

-- levels that stay for some ticks stay for `int` times as many clocks
pub stay : (int : ℕ) (at up : ℕ → Bool) → ((t e : ℕ) → e < int → at (int * t + e) ≡ up t) → (k a : ℕ) (v : Bool) → ((j : ℕ) → j < k → up (a + j) ≡ v)
    → (j : ℕ) → j < k * int → at (int * a + j) ≡ v
stay int at up held zero a v h j l = absurd (let e : 0 * int ≡ 0 = omega arith in omega (arith, l, e))
stay int at up held (suc k) a v h j l = elim (cases_lt j int) [
  | inl first ↦ held a j first ∙ ap up (let e : a ≡ a + 0 = omega arith in e) ∙ h 0 (omega arith)
  | inr later ↦
      ap at (let m = mul-add int a 1 in let e : int * a + j ≡ int * (a + 1) + (j - int) = omega (arith, m, later) in e)
      ∙ stay int at up held k (a + 1) v (λ i m. ap up (let e : a + 1 + i ≡ a + (i + 1) = omega arith in e) ∙ h (i + 1) (omega (arith, m))) (j - int) (let m = suc_mul int k in omega (arith, l, m, later))
]
