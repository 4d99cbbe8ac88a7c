-- How many ticks there are in some clocks, and where the next one is after them, from the time that is left.
use Rattle.std.proofs.Common.{◌≡◌, ℕ, zero, suc, ◌+◌, ◌-◌, ◌*◌, ◌/◌, ◌%◌, ◌^◌, ◌<◌, ◌≤◌, true, false, nat_lt, sym, ap, ◌∙◌, refl, subst, inl, inr, add-zero, arith}
use Rattle.std.proofs.lemmas.Bool.{cases_lt}
use Rattle.std.proofs.lemmas.Bool.Decides.{nat_tests}
use Rattle.std.proofs.lemmas.Nat.{div-add-mod', div_below, mul-le, mod_below}
use Rattle.std.proofs.Math.Nat.{mul-add, mul_assoc, add-mul}
use Rattle.clock_divider.specs.Left.{IsLeft, IsRunning}
use Rattle.clock_divider.specs.Ticks.{IsTickClock, is_tick, tick_count}
use Rattle.clock_divider.specs.Timing.{Timing, after_steps}
use Rattle.clock_divider.proofs.LeftLaws.{left-moved}
use Rattle.clock_divider.proofs.TickLaws.{IsTickClock-from_test, is_tick-from_left, tick_count-more}

-- Whether the clock after n others is a tick, from what is left then.
is_tick-later : (restarted period clock left n periods now : ℕ) → restarted ≤ clock → IsLeft period (clock - restarted) left → left + periods * period ≡ n * 256 + now → now < period → is_tick restarted period (clock + n) ≡ nat_lt now 256
is_tick-later restarted period clock left n periods now begun h moved small =
    let later = left-moved period (clock - restarted) left n periods now h moved small in
    let same : (clock - restarted) + n ≡ clock + n - restarted = omega arith in
    is_tick-from_left restarted period (clock + n) now (omega arith) (let P : ℕ → Type 0 = λ e. IsLeft period e now in subst P same later)

-- The ticks in n clocks are the whole periods that end in them.
pub tick_count-is : (restarted period clock left n periods now : ℕ) → restarted ≤ clock → 256 ≤ period → IsLeft period (clock - restarted) left → left + periods * period ≡ n * 256 + now → now < period → tick_count restarted period clock n ≡ periods
unfolding tick_count
tick_count-is restarted period clock left zero zero now begun wide h moved small = refl
tick_count-is restarted period clock left zero (suc periods) now begun wide h moved small = absurd (omega (arith, add-mul 1 periods period))
tick_count-is restarted period clock left (suc n) zero now begun wide h moved small =
    elim (cases_lt (now + 256) period) [
      | inl waits ↦ tick_count-more restarted period clock n 0 false
          (tick_count-is restarted period clock left n 0 (now + 256) begun wide h (omega arith) waits)
          (is_tick-later restarted period clock left n 0 (now + 256) begun h (omega arith) waits ∙ grind (arith, nat_tests))
      | inr ends ↦ absurd (let low = h.below in omega arith)
    ]
tick_count-is restarted period clock left (suc n) (suc periods) now begun wide h moved small =
    let one_more = add-mul 1 periods period in
    elim (cases_lt (now + 256) period) [
      | inl waits ↦ tick_count-more restarted period clock n (suc periods) false
          (tick_count-is restarted period clock left n (suc periods) (now + 256) begun wide h (omega arith) waits)
          (is_tick-later restarted period clock left n (suc periods) (now + 256) begun h (omega arith) waits ∙ grind (arith, nat_tests))
          ∙ omega arith
      | inr ends ↦ tick_count-more restarted period clock n periods true
          (tick_count-is restarted period clock left n periods (now + 256 - period) begun wide h (omega arith) (omega arith))
          (is_tick-later restarted period clock left n periods (now + 256 - period) begun h (omega arith) (omega arith) ∙ grind (arith, nat_tests))
          ∙ omega arith
    ]

-- n steps move the clock alone.
pub after_steps-is : (n : ℕ) (t : Timing) → after_steps n t ≡ record t { clock = t.clock + n }
unfolding after_steps
after_steps-is zero t = rw add-zero refl
after_steps-is (suc n) t = ap (λ (s : Timing). record s { clock = s.clock + 1 }) (after_steps-is n t) ∙ ap (λ (m : ℕ). record t { clock = m }) (omega arith)

-- Where n periods more end: in clocks, and in 1/256 of the last one.
pub tick_time : (period n left : ℕ) → left + n * period ≡ (n * (period / 256) + (left + n * (period % 256)) / 256) * 256 + (left + n * (period % 256)) % 256
tick_time period n left =
    let parts : period / 256 * 256 + period % 256 ≡ period = div-add-mod' period 256 in
    let spread : n * period ≡ n * (period / 256 * 256) + n * (period % 256) = ap (λ m. n * m) (sym parts) ∙ mul-add n (period / 256 * 256) (period % 256) in
    let whole : n * (period / 256 * 256) ≡ n * (period / 256) * 256 = sym (mul_assoc n (period / 256) 256) in
    let rest : (left + n * (period % 256)) / 256 * 256 + (left + n * (period % 256)) % 256 ≡ left + n * (period % 256) = div-add-mod' (left + n * (period % 256)) 256 in
    omega arith

-- That is at most 65,536 clocks a period.
pub tick_time-le : (period n left : ℕ) → left < period → period ≤ 2 ^ 24 → n * (period / 256) + (left + n * (period % 256)) / 256 ≤ 2 ^ 16 * (n + 1)
tick_time-le period n left below longest =
    let time = tick_time period n left in
    let most : n * period ≤ n * 2 ^ 24 = mul-le n period n (2 ^ 24) (omega arith) longest in
    omega (arith, time)

-- The periods that end within n clocks, and what is left after them.
pub time_within : (period n left : ℕ) → left < period →
    left + (n * 256 + (period - 1 - left)) / period * period ≡ n * 256 + (period - 1 - (n * 256 + (period - 1 - left)) % period)
time_within period n left below =
    let over = n * 256 + (period - 1 - left) in
    let split : over / period * period + over % period ≡ over = div-add-mod' over period in
    let small : over % period < period = mod_below over period (omega arith) in
    omega arith

-- They are no more than the clocks.
pub within-le : (period n left : ℕ) → 256 ≤ period → left < period → (n * 256 + (period - 1 - left)) / period ≤ n
within-le period n left wide below =
    let room : n * 256 ≤ n * period = mul-le n 256 n period (omega arith) wide in
    let bound : (n * 256 + (period - 1 - left)) / period < suc n = div_below (n * 256 + (period - 1 - left)) period (suc n) (omega arith) (omega (arith, add-mul 1 n period)) in
    omega arith

-- The clock in which n periods more end is a tick.
pub IsTickClock-at : (clock restarted period left n : ℕ) → IsRunning clock restarted period left →
    IsTickClock restarted period (clock + (n * (period / 256) + (left + n * (period % 256)) / 256))
IsTickClock-at clock restarted period left n h =
    let clocks = n * (period / 256) + (left + n * (period % 256)) / 256 in
    let now = (left + n * (period % 256)) % 256 in
    let small : now < 256 = mod_below (left + n * (period % 256)) 256 (omega arith) in
    let wide = h.shortest in
    let begun = h.begun in
    let later = left-moved period (clock - restarted) left clocks n now h.next (tick_time period n left) (omega arith) in
    let same : (clock - restarted) + clocks ≡ clock + clocks - restarted = omega arith in
    IsTickClock-from_test restarted period (clock + clocks) now (omega arith)
    (let P : ℕ → Type 0 = λ e. IsLeft period e now in subst P same later) (grind (arith, nat_tests))

-- As many ticks come before it.
pub tick_count-at : (clock restarted period left n : ℕ) → IsRunning clock restarted period left →
    tick_count restarted period clock (n * (period / 256) + (left + n * (period % 256)) / 256) ≡ n
tick_count-at clock restarted period left n h =
    let now = (left + n * (period % 256)) % 256 in
    let small : now < 256 = mod_below (left + n * (period % 256)) 256 (omega arith) in
    let wide = h.shortest in
    tick_count-is restarted period clock left (n * (period / 256) + (left + n * (period % 256)) / 256) n now
    h.begun wide h.next (tick_time period n left) (omega arith)

-- The ticks within n clocks.
pub tick_count-within : (clock restarted period left n : ℕ) → IsRunning clock restarted period left →
    tick_count restarted period clock n ≡ (n * 256 + (period - 1 - left)) / period
tick_count-within clock restarted period left n h =
    let wide = h.shortest in
    tick_count-is restarted period clock left n ((n * 256 + (period - 1 - left)) / period)
    (period - 1 - (n * 256 + (period - 1 - left)) % period)
    h.begun wide h.next (time_within period n left h.next.below) (omega arith)

-- The divider that has leapt n clocks.
pub IsRunning-leapt : (clock restarted period left n : ℕ) → IsRunning clock restarted period left → clock + n ≤ 2 ^ 40 →
    IsRunning (clock + n) restarted period (period - 1 - (n * 256 + (period - 1 - left)) % period)
IsRunning-leapt clock restarted period left n h room =
    let now = period - 1 - (n * 256 + (period - 1 - left)) % period in
    let begun = h.begun in
    let wide = h.shortest in
    let later = left-moved period (clock - restarted) left n ((n * 256 + (period - 1 - left)) / period) now h.next (time_within period n left h.next.below) (omega arith) in
    let same : (clock - restarted) + n ≡ clock + n - restarted = omega arith in
    record {
      begun = omega arith;
      in_range = room;
      shortest = h.shortest;
      longest = h.longest;
      next = (let P : ℕ → Type 0 = λ e. IsLeft period e now in subst P same later);
    }
