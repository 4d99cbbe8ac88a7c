-- A divider without fraction: its ticks are the multiples of its whole part.
use Rattle.std.proofs.Common.{◌≡◌, ◌==◌, ℕ, ◌+◌, ◌*◌, ◌/◌, ◌<◌, ◌≤◌, inl, inr, ◌↔◌, Bool, true, false, IsTrue, refl, arith}
use Rattle.std.proofs.Math.Nat.{mul-le-mul_left, mul-add}
use Rattle.std.proofs.lemmas.Bool.{cases_lt}
use Rattle.std.proofs.lemmas.Bool.Decides.{nat_tests}
use Rattle.clock_divider.specs.Timing.{period_of}
use Rattle.clock_divider.specs.Ticks.{IsTickClock, is_tick}

-- what the law of clock_divider says
abbrev pub AreTested : Type 0
AreTested = (restarted period clock : ℕ) → 0 < period → IsTrue (is_tick restarted period clock) ↔ (IsTickClock restarted period clock)

periods : (int k : ℕ) → k * (256 * int + 0) / 256 ≡ int * k
periods int k = let e : k * (256 * int + 0) ≡ int * k * 256 = grind arith in omega arith

pub period : (int whole frac : ℕ) → 1 ≤ int → whole ≡ int → frac ≡ 0 → period_of whole frac ≡ 256 * int + 0
period int whole frac some e f = rw (e, f, not_zero) refl where
  not_zero : (int == 0) ≡ false
  not_zero = grind (arith, nat_tests)

pub on_tick : AreTested → (int t : ℕ) → 1 ≤ int → is_tick 0 (256 * int + 0) (int * t) ≡ true
on_tick tested int t some = (tested 0 (256 * int + 0) (int * t) (omega (arith, some))).1 (t, let e = periods int t in omega arith)

pub off_tick : AreTested → (int t e : ℕ) → 0 < e → e < int → is_tick 0 (256 * int + 0) (int * t + e) ≡ false
off_tick tested int t e more less = by (is_tick 0 (256 * int + 0) (int * t + e)) refl where
  never : (k : ℕ) → int * k ≡ int * t + e → ⊥
  never k same = elim (cases_lt t k) [
    | inl after ↦ let m : int * (t + 1) ≤ int * k = mul-le-mul_left int (omega (arith, after)) in let n = mul-add int t 1 in omega (arith, m, n, same, less)
    | inr before ↦ let m = mul-le-mul_left int before in omega (arith, m, same, more)
  ]

  by : (b : Bool) → is_tick 0 (256 * int + 0) (int * t + e) ≡ b → is_tick 0 (256 * int + 0) (int * t + e) ≡ false
  by false q = q
  by true q =
      let k = (tested 0 (256 * int + 0) (int * t + e) (omega (arith, less))).0 q in
      absurd (never k.0 (let p = periods int k.0 in let o = k.1 in omega (arith, p, o)))
