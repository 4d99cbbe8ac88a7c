-- The time that is left until the next tick: how it moves, and what it tells of ticks.
use Rattle.std.proofs.Common.{◌≡◌, ℕ, suc, ◌+◌, ◌-◌, ◌*◌, ◌/◌, ◌%◌, ◌<◌, ◌≤◌, nat_lt, ap, ◌∙◌, inl, inr, arith}
use Rattle.std.proofs.lemmas.Bool.{cases_lt}
use Rattle.std.proofs.lemmas.Bool.Decides.{nat_tests}
use Rattle.std.proofs.lemmas.Nat.{div-add-mod', div-mul-add, mul-le, mod_below}
use Rattle.std.proofs.Math.Nat.{add-mul-mod_self_right, mul-mod_left}
use Rattle.clock_divider.specs.Left.{IsLeft}

-- Some clocks and some periods later.
pub left-moved : (period elapsed left clocks periods now : ℕ) → IsLeft period elapsed left → left + periods * period ≡ clocks * 256 + now → now < period → IsLeft period (elapsed + clocks) now
left-moved period elapsed left clocks periods now h moved small =
    let same : (elapsed + clocks) * 256 + now ≡ (elapsed * 256 + left) + periods * period = omega arith in
    record {
      below = small;
      whole = ap (λ m. m % period) same ∙ add-mul-mod_self_right (elapsed * 256 + left) periods period ∙ h.whole;
    }

-- The number of the next tick, as a whole number of periods.
pub left-periods : (period elapsed left : ℕ) → IsLeft period elapsed left → (elapsed * 256 + left) / period * period ≡ elapsed * 256 + left
left-periods period elapsed left h =
    omega (arith, div-add-mod' (elapsed * 256 + left) period, h.whole)

-- There is a time left after any number of clocks.
pub left-exists : (period elapsed : ℕ) → 0 < period → (left : ℕ) × IsLeft period elapsed left
left-exists period elapsed some =
    let time = elapsed * 256 + (period - 1) in
    let rest = time % period in
    let small : rest < period = mod_below time period some in
    let split : time / period * period + rest ≡ time = div-add-mod' time period in
    let whole : elapsed * 256 + (period - 1 - rest) ≡ time / period * period = omega arith in (
      period - 1 - rest,
      record {
        below = omega arith;
        whole = ap (λ m. m % period) whole ∙ mul-mod_left (time / period) period;
      },
    )

-- A tick is now where less than a clock is left.
pub tick-from_left : (period elapsed left : ℕ) → IsLeft period elapsed left → left < 256 → (k : ℕ) × (k * period / 256 ≡ elapsed)
tick-from_left period elapsed left h soon =
    ((elapsed * 256 + left) / period, ap (λ m. m / 256) (left-periods period elapsed left h) ∙ div-mul-add elapsed 256 left soon)

-- Less than a clock is left where a tick is now.
pub left-from_tick : (period elapsed left k : ℕ) → IsLeft period elapsed left → k * period / 256 ≡ elapsed → left < 256
left-from_tick period elapsed left k h now =
    let next = (elapsed * 256 + left) / period in
    let at = left-periods period elapsed left h in
    let split = div-add-mod' (k * period) 256 in
    let part : k * period % 256 < 256 = mod_below (k * period) 256 (omega arith) in
    let low = h.below in
    elim (cases_lt k next) [
      | inl earlier ↦ absurd (let apart : suc k * period ≤ next * period = mul-le (suc k) period next period (omega arith) (omega arith) in omega (arith, apart))
      | inr later ↦ (let ahead : next * period ≤ k * period = mul-le next period k period later (omega arith) in omega (arith, ahead))
    ]

-- The test by quotients, from the time that is left.
pub test-from_left : (period elapsed left : ℕ) → IsLeft period elapsed left → nat_lt ((elapsed * 256 + (period - 1)) / period * period) ((elapsed + 1) * 256) ≡ nat_lt left 256
test-from_left period elapsed left h =
    let next = (elapsed * 256 + left) / period in
    let at = left-periods period elapsed left h in
    let low = h.below in
    let split : elapsed * 256 + (period - 1) ≡ next * period + (period - 1 - left) = omega arith in
    let number : (elapsed * 256 + (period - 1)) / period ≡ next = ap (λ m. m / period) split ∙ div-mul-add next period (period - 1 - left) (omega arith) in
    let time : (elapsed * 256 + (period - 1)) / period * period ≡ elapsed * 256 + left = ap (λ m. m * period) number ∙ at in
    ap (λ m. nat_lt m ((elapsed + 1) * 256)) time ∙ grind (arith, nat_tests)
