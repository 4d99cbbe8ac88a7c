-- The number of a divider's next tick, what a clock adds to it, and the clock of a tick by its number.
use Rattle.std.proofs.Common.{◌≡◌, ℕ, zero, suc, ◌+◌, ◌-◌, ◌*◌, ◌/◌, ◌%◌, ◌<◌, ◌≤◌, max, Bool, true, false, IsTrue, cond, nat_lt, nat_le, refl, sym, ap, ◌∙◌, inl, inr, arith}
use Rattle.std.proofs.lemmas.Bool.{cases_lt}
use Rattle.std.proofs.lemmas.Bool.Decides.{nat_tests}
use Rattle.std.proofs.lemmas.Nat.{div-add-mod', div-mul-add, le-div, mod_below}
use Rattle.std.proofs.Math.Nat.{add-mul}
use Rattle.clock_divider.specs.Ticks.{is_tick}
use Rattle.clock_divider.specs.Timing.{Timing, stepped}
use Rattle.block_core.specs.Conduct.{clock_of_tick, next_tick, period_in}

-- the number of the next tick, so many clocks after the restart
abbrev pub number : (period elapsed : ℕ) → ℕ
number period elapsed = (elapsed * 256 + (period - 1)) / period

-- its time isn't before the clock, and less than a period after the clock's start
pub not_before : (period elapsed : ℕ) → 256 ≤ period → elapsed * 256 ≤ number period elapsed * period
not_before period elapsed wide =
    let time = elapsed * 256 + (period - 1) in
    let split : time / period * period + time % period ≡ time = div-add-mod' time period in
    let small : time % period < period = mod_below time period (omega arith) in
    omega arith

soon_after : (period elapsed : ℕ) → 256 ≤ period → number period elapsed * period < elapsed * 256 + period
soon_after period elapsed wide =
    let time = elapsed * 256 + (period - 1) in
    let split : time / period * period + time % period ≡ time = div-add-mod' time period in
    omega arith

-- where each clock is a tick
each_clock : (period elapsed : ℕ) → period < 256 → (elapsed * 256 + (period - 1)) / period * period < (elapsed + 1) * 256
each_clock zero elapsed short = omega arith
each_clock (suc n) elapsed short =
    let time = elapsed * 256 + (suc n - 1) in
    let split : time / suc n * suc n + time % suc n ≡ time = div-add-mod' time (suc n) in
    omega arith

-- a clock from the restart on is a tick where the next tick's time is within it
tick_within : (period elapsed : ℕ) → nat_lt ((elapsed * 256 + (period - 1)) / period * period) ((elapsed + 1) * 256) ≡ nat_lt (number (max 256 period) elapsed * max 256 period) ((elapsed + 1) * 256)
tick_within period elapsed =
    elim (cases_lt period 256) [
      | inl short ↦
          let least : max 256 period ≡ 256 = omega arith in
          let once = each_clock period elapsed short in
          let there = soon_after 256 elapsed (omega arith) in
          let left : nat_lt ((elapsed * 256 + (period - 1)) / period * period) ((elapsed + 1) * 256) ≡ true = grind (arith, nat_tests) in
          let right : nat_lt (number 256 elapsed * 256) ((elapsed + 1) * 256) ≡ true = grind (arith, nat_tests) in
          left ∙ sym (ap (λ (p : ℕ). nat_lt (number p elapsed * p) ((elapsed + 1) * 256)) least ∙ right)
      | inr wide ↦
          let own : max 256 period ≡ period = omega arith in
          sym (ap (λ (p : ℕ). nat_lt (number p elapsed * p) ((elapsed + 1) * 256)) own)
    ]

tick_is : (restarted period clock : ℕ) → restarted ≤ clock → is_tick restarted period clock ≡ nat_lt (number (max 256 period) (clock - restarted) * max 256 period) ((clock - restarted + 1) * 256)
unfolding is_tick
tick_is restarted period clock begun =
    let after : nat_le restarted clock ≡ true = grind (arith, nat_tests) in
    rw after (tick_within period (clock - restarted))

none_before : (restarted period clock : ℕ) → clock < restarted → is_tick restarted period clock ≡ false
unfolding is_tick
none_before restarted period clock early =
    let before : nat_le restarted clock ≡ false = grind (arith, nat_tests) in
    rw before refl

-- a clock more: after a tick the next one has the next number
next_number : (period elapsed : ℕ) → 256 ≤ period → number period (elapsed + 1) ≡ number period elapsed + cond (nat_lt (number period elapsed * period) ((elapsed + 1) * 256)) 1 0
next_number period elapsed wide =
    let low = not_before period elapsed wide in
    let high = soon_after period elapsed wide in
    elim (cases_lt (number period elapsed * period) ((elapsed + 1) * 256)) [
      | inl ticks ↦
          let rest = (elapsed + 1) * 256 - 1 - number period elapsed * period in
          let more = add-mul 1 (number period elapsed) period in
          let parts : (elapsed + 1) * 256 + (period - 1) ≡ (1 + number period elapsed) * period + rest = omega arith in
          let yes : nat_lt (number period elapsed * period) ((elapsed + 1) * 256) ≡ true = grind (arith, nat_tests) in
          ap (λ (n : ℕ). n / period) parts
          ∙ div-mul-add (1 + number period elapsed) period rest (omega arith)
          ∙ rw yes (omega arith)
      | inr waits ↦
          let rest = (elapsed + 1) * 256 + (period - 1) - number period elapsed * period in
          let parts : (elapsed + 1) * 256 + (period - 1) ≡ number period elapsed * period + rest = omega arith in
          let no : nat_lt (number period elapsed * period) ((elapsed + 1) * 256) ≡ false = grind (arith, nat_tests) in
          ap (λ (n : ℕ). n / period) parts
          ∙ div-mul-add (number period elapsed) period rest (omega arith)
          ∙ rw no (omega arith)
    ]

pub number_more : (restarted period clock : ℕ) → number (max 256 period) (clock + 1 - restarted) ≡ number (max 256 period) (clock - restarted) + cond (is_tick restarted period clock) 1 0
number_more restarted period clock =
    elim (cases_lt clock restarted) [
      | inl early ↦
          let now : clock - restarted ≡ 0 = omega arith in
          let then : clock + 1 - restarted ≡ 0 = omega arith in
          rw (now, then, none_before restarted period clock early) (omega arith)
      | inr begun ↦
          let one : clock + 1 - restarted ≡ clock - restarted + 1 = omega arith in
          ap (number (max 256 period)) one
          ∙ next_number (max 256 period) (clock - restarted) (omega arith)
          ∙ ap (λ (b : Bool). number (max 256 period) (clock - restarted) + cond b 1 0) (sym (tick_is restarted period clock begun))
    ]

-- a tick is in the clock of its number
pub clock_of : (restarted period clock : ℕ) → IsTrue (is_tick restarted period clock) → restarted + number (max 256 period) (clock - restarted) * max 256 period / 256 ≡ clock
clock_of restarted period clock ticks =
    elim (cases_lt clock restarted) [
      | inl early ↦ absurd (let no = none_before restarted period clock early in cc)
      | inr begun ↦
          let p = max 256 period in
          let elapsed = clock - restarted in
          let low = not_before p elapsed (omega arith) in
          let within : nat_lt (number p elapsed * p) ((elapsed + 1) * 256) ≡ true = sym (tick_is restarted period clock begun) ∙ ticks in
          let high : number p elapsed * p < (elapsed + 1) * 256 = grind (arith, nat_tests) in
          let rest = number p elapsed * p - elapsed * 256 in
          let parts : number p elapsed * p ≡ elapsed * 256 + rest = omega arith in
          ap (λ (n : ℕ). restarted + n / 256) parts
          ∙ ap (λ (n : ℕ). restarted + n) (div-mul-add elapsed 256 rest (omega arith))
          ∙ omega arith
    ]

-- a tick comes in no clock before the present one
pub not_past : (t : Timing) (later : ℕ) → t.clock ≤ clock_of_tick t later
unfolding clock_of_tick next_tick
not_past t later =
    let p = period_in t in
    let elapsed = t.clock - t.restarted in
    let low = not_before p elapsed (omega arith) in
    let more : (number p elapsed + later) * p ≡ number p elapsed * p + later * p = add-mul (number p elapsed) later p in
    let far : elapsed ≤ (number p elapsed + later) * p / 256 = le-div elapsed ((number p elapsed + later) * p) 256 (omega arith) (omega arith) in
    omega arith

-- in a clock that is a tick, the next one is this one, and after it the one after it is the next; else the next stays
pub tick_now : (t : Timing) → is_tick t.restarted t.period t.clock ≡ true → clock_of_tick t 0 ≡ t.clock
unfolding clock_of_tick next_tick
tick_now t ticks =
    let n = next_tick t in
    ap (λ (k : ℕ). t.restarted + k * period_in t / 256) (let z : n + 0 ≡ n = omega arith in z) ∙ clock_of t.restarted t.period t.clock ticks

pub tick_over : (t : Timing) (later : ℕ) → is_tick t.restarted t.period t.clock ≡ true → clock_of_tick (stepped t) later ≡ clock_of_tick t (suc later)
unfolding clock_of_tick next_tick
tick_over t later ticks =
    let n = number (period_in t) (t.clock - t.restarted) in
    let next : number (period_in t) (t.clock + 1 - t.restarted) ≡ n + 1 =
    number_more t.restarted t.period t.clock ∙ ap (λ (b : Bool). n + cond b 1 0) ticks in
    ap (λ (k : ℕ). t.restarted + (k + later) * period_in t / 256) next
    ∙ ap (λ (k : ℕ). t.restarted + k * period_in t / 256) (let z : n + 1 + later ≡ n + suc later = omega arith in z)

pub tick_waits : (t : Timing) (later : ℕ) → is_tick t.restarted t.period t.clock ≡ false → clock_of_tick (stepped t) later ≡ clock_of_tick t later
unfolding clock_of_tick next_tick
tick_waits t later none =
    let n = number (period_in t) (t.clock - t.restarted) in
    let next : number (period_in t) (t.clock + 1 - t.restarted) ≡ n =
    number_more t.restarted t.period t.clock ∙ ap (λ (b : Bool). n + cond b 1 0) none ∙ (let z : n + 0 ≡ n = omega arith in z) in
    ap (λ (k : ℕ). t.restarted + (k + later) * period_in t / 256) next
