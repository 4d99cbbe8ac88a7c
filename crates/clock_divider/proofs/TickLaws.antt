-- What the test for a tick means, and how many ticks there are in some clocks.
use Rattle.std.proofs.Common.{◌≡◌, ℕ, zero, suc, ◌+◌, ◌-◌, ◌<◌, ◌≤◌, Bool, true, false, nat_lt, nat_le, cond, ◌↔◌, IsTrue, sym, ◌∙◌, refl, inl, inr, add-zero, add-suc, arith, rules}
use Rattle.std.proofs.lemmas.Bool.{cases_lt}
use Rattle.std.proofs.lemmas.Bool.Decides.{nat_tests}
use Rattle.clock_divider.specs.Left.{IsLeft}
use Rattle.clock_divider.specs.Ticks.{IsTickClock, is_tick, tick_count}
use Rattle.clock_divider.proofs.LeftLaws.{left-exists, tick-from_left, left-from_tick, test-from_left}

-- The test, from the time that is left.
pub is_tick-from_left : (restarted period clock left : ℕ) → restarted ≤ clock → IsLeft period (clock - restarted) left → is_tick restarted period clock ≡ nat_lt left 256
unfolding is_tick
is_tick-from_left restarted period clock left begun h =
    let test = test-from_left period (clock - restarted) left h in
    let after : nat_le restarted clock ≡ true = grind (arith, nat_tests) in
    rw after test

-- What the test says is what a tick is.
pub IsTickClock-from_test : (restarted period clock left : ℕ) → restarted ≤ clock → IsLeft period (clock - restarted) left → IsTrue (nat_lt left 256) → IsTickClock restarted period clock
IsTickClock-from_test restarted period clock left begun h soon =
    let tick = tick-from_left period (clock - restarted) left h (search (rules, nat_tests)) in
    (tick.0, omega (arith, tick.1))

pub test-from_tick : (restarted period clock left : ℕ) → restarted ≤ clock → IsLeft period (clock - restarted) left → IsTickClock restarted period clock → IsTrue (nat_lt left 256)
test-from_tick restarted period clock left begun h tick =
    let soon = left-from_tick period (clock - restarted) left tick.0 h (omega (arith, tick.1)) in
    grind (arith, nat_tests)

-- A clock before the restart is no tick.
not_before : (restarted period clock : ℕ) → clock < restarted → IsTickClock restarted period clock → ⊥
not_before restarted period clock early tick = omega (arith, tick.1)

before-false : (restarted period clock : ℕ) → clock < restarted → is_tick restarted period clock ≡ false
unfolding is_tick
before-false restarted period clock early =
    let before : nat_le restarted clock ≡ false = grind (arith, nat_tests) in
    rw before

pub is_tick-iff : (restarted period clock : ℕ) → 0 < period → (IsTrue (is_tick restarted period clock)) ↔ (IsTickClock restarted period clock)
is_tick-iff restarted period clock some =
    elim (cases_lt clock restarted) [
      | inl early ↦ (λ yes. absurd (let no = before-false restarted period clock early in cc), λ tick. absurd (not_before restarted period clock early tick))
      | inr begun ↦ (let gap = left-exists period (clock - restarted) some in
          let test = is_tick-from_left restarted period clock gap.0 begun gap.1 in (
            λ yes. IsTickClock-from_test restarted period clock gap.0 begun gap.1 (sym test ∙ yes),
            λ tick. test ∙ test-from_tick restarted period clock gap.0 begun gap.1 tick,
          ))
    ]

-- One clock more.
pub tick_count-more : (restarted period clock n ticks : ℕ) (b : Bool) → tick_count restarted period clock n ≡ ticks → is_tick restarted period (clock + n) ≡ b → tick_count restarted period clock (suc n) ≡ ticks + cond b 1 0
unfolding tick_count
tick_count-more restarted period clock n ticks b before last = rw (before, last) refl

-- Some clocks, and those after them.
pub tick_count-add : (restarted period clock m n : ℕ) → tick_count restarted period clock (m + n) ≡ tick_count restarted period clock m + tick_count restarted period (clock + m) n
unfolding tick_count
tick_count-add restarted period clock m zero = rw add-zero (omega arith)
tick_count-add restarted period clock m (suc n) =
    let before = tick_count-add restarted period clock m n in
    let place : clock + (m + n) ≡ clock + m + n = omega arith in
    rw (add-suc, before, place) (omega arith)
