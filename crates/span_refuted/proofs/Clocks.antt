-- Ticks come: after each clock there is one in which the divider ticks.
use Rattle.std.proofs.Common.{◌≡◌, ℕ, zero, suc, ◌+◌, ◌-◌, ◌*◌, ◌/◌, ◌<◌, ◌≤◌, ◌↔◌, true, IsTrue, refl, subst, arith}
use Rattle.clock_divider.specs.Ticks.{IsTickClock, is_tick}

-- what a law of clock_divider says
abbrev pub IsTested : Type 0
IsTested = (restarted period clock : ℕ) → 0 < period → IsTrue (is_tick restarted period clock) ↔ (IsTickClock restarted period clock)

pub mul_more : (c p : ℕ) → 256 ≤ p → c * 256 ≤ c * p
mul_more zero p h = omega arith
mul_more (suc c) p h = let r = mul_more c p h in more (c * 256) (c * p) r where
  more : (a b : ℕ) → a ≤ b → suc c * 256 ≤ suc c * p
  more a b l = grind arith

-- c periods take at least c clocks
late_enough : (c p : ℕ) → 256 ≤ p → c ≤ c * p / 256
late_enough c p h = on (c * p) (mul_more c p h) where
  on : (q : ℕ) → c * 256 ≤ q → c ≤ q / 256
  on q l = omega arith

pub tick_comes : IsTested → (period c : ℕ) → 256 ≤ period → (d : ℕ) × (is_tick 0 period (c + d) ≡ true)
tick_comes tested period c h = (c * period / 256 - c, subst (λ n. is_tick 0 period n ≡ true) (there _ (late_enough c period h)) ((tested 0 period (0 + c * period / 256) (omega arith)).1 (c, refl))) where
  there : (q : ℕ) → c ≤ q → 0 + q ≡ c + (q - c)
  there q l = omega arith
