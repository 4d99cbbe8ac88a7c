-- The pulses of levels in a row: none begins where the level stays, and one begins where it rises.
use Rattle.std.proofs.Common.{◌≡◌, ℕ, zero, suc, ◌+◌, ◌-◌, ◌*◌, ◌<◌, ◌≤◌, inl, inr, min, Bool, true, false, cond, List, [], ◌∷◌, drop, refl, sym, ap, ◌∙◌, arith}
use Rattle.std.proofs.lemmas.Bool.{cases_lt}
use Rattle.program_runs.specs.Levels.{row}
use Rattle.pio_ws2812.specs.Pulses.{Pulse, highs, lows, pulse_at, pulses_from, rises}
use Rattle.pio_ws2812.specs.Sending.{high_of}

-- the same row, from another clock or of another length
pub row_at : (at : ℕ → Bool) (a b m n : ℕ) → a ≡ b → m ≡ n → row at a m ≡ row at b n
row_at at a b m n e f = ap (λ c. row at c m) e ∙ ap (row at b) f

pub no_pulses : (clock : ℕ) (before : Bool) → pulses_from clock before [] ≡ []
unfolding pulses_from
no_pulses clock before = refl

-- the first of a row
starts : (clock : ℕ) (before : Bool) (at : ℕ → Bool) (n : ℕ)
    → pulses_from clock before (row at clock (suc n)) ≡ cond (rises before (at clock)) (pulse_at clock (row at clock (suc n)) ∷ pulses_from (clock + 1) (at clock) (row at (clock + 1) n)) (pulses_from (clock + 1) (at clock) (row at (clock + 1) n))
unfolding pulses_from
starts clock before at n = refl

-- in clocks in which the level stays, no pulse begins
same_level : (v : Bool) → rises v v ≡ false
same_level true = refl
same_level false = refl

pub stays : (k clock n : ℕ) (at : ℕ → Bool) (v : Bool) → ((j : ℕ) → j < k → at (clock + j) ≡ v) → pulses_from clock v (row at clock n) ≡ pulses_from (clock + k) v (row at (clock + k) (n - k))
stays zero clock n at v h = ap (λ c. pulses_from c v (row at c n)) (let e : clock ≡ clock + 0 = omega arith in e) ∙ ap (λ m. pulses_from (clock + 0) v (row at (clock + 0) m)) (let e : n ≡ n - 0 = omega arith in e)
stays (suc k) clock zero at v h = no_pulses clock v ∙ sym (no_pulses (clock + suc k) v) ∙ ap (λ m. pulses_from (clock + suc k) v (row at (clock + suc k) m)) (let e : 0 ≡ 0 - suc k = omega arith in e)
stays (suc k) clock (suc n) at v h =
    starts clock v at n
    ∙ ap (λ w. cond (rises v w) (pulse_at clock (row at clock (suc n)) ∷ pulses_from (clock + 1) w (row at (clock + 1) n)) (pulses_from (clock + 1) w (row at (clock + 1) n))) (ap at (let e : clock ≡ clock + 0 = omega arith in e) ∙ h 0 (omega arith))
    ∙ ap (λ b. cond b (pulse_at clock (row at clock (suc n)) ∷ pulses_from (clock + 1) v (row at (clock + 1) n)) (pulses_from (clock + 1) v (row at (clock + 1) n))) (same_level v)
    ∙ stays k (clock + 1) n at v (λ j l. ap at (let e : clock + 1 + j ≡ clock + (j + 1) = omega arith in e) ∙ h (j + 1) (omega (arith, l)))
    ∙ ap (λ c. pulses_from c v (row at c (n - k))) (let e : clock + 1 + k ≡ clock + suc k = omega arith in e)
    ∙ ap (λ m. pulses_from (clock + suc k) v (row at (clock + suc k) m)) (let e : n - k ≡ suc n - suc k = omega arith in e)

-- from a low level on it doesn't matter what was before
from_low : (clock n : ℕ) (at : ℕ → Bool) → at clock ≡ false → pulses_from clock true (row at clock n) ≡ pulses_from clock false (row at clock n)
from_low clock zero at h = no_pulses clock true ∙ sym (no_pulses clock false)
from_low clock (suc n) at h =
    starts clock true at n ∙ ap (λ v. cond (rises true v) (pulse_at clock (row at clock (suc n)) ∷ pulses_from (clock + 1) v (row at (clock + 1) n)) (pulses_from (clock + 1) v (row at (clock + 1) n))) h
    ∙ sym (starts clock false at n ∙ ap (λ v. cond (rises false v) (pulse_at clock (row at clock (suc n)) ∷ pulses_from (clock + 1) v (row at (clock + 1) n)) (pulses_from (clock + 1) v (row at (clock + 1) n))) h)

-- how many of the first levels are low, or high
pub lows-for : (k clock n : ℕ) (at : ℕ → Bool) → ((j : ℕ) → j < k → at (clock + j) ≡ false) → lows (row at clock n) ≡ min k n + lows (row at (clock + k) (n - k))
lows-for zero clock n at h = ap lows (row_at at clock (clock + 0) n (n - 0) (omega arith) (omega arith)) ∙ (let e : lows (row at (clock + 0) (n - 0)) ≡ min 0 n + lows (row at (clock + 0) (n - 0)) = omega arith in e)
lows-for (suc k) clock zero at h = let e : lows (row at (clock + suc k) (0 - suc k)) ≡ 0 = ap (λ m. lows (row at (clock + suc k) m)) (let f : 0 - suc k ≡ 0 = omega arith in f) in omega (arith, e)
lows-for (suc k) clock (suc n) at h =
    ap (λ v. lows (v ∷ row at (clock + 1) n)) (ap at (let e : clock ≡ clock + 0 = omega arith in e) ∙ h 0 (omega arith))
    ∙ ap suc (lows-for k (clock + 1) n at (λ j l. ap at (let e : clock + 1 + j ≡ clock + (j + 1) = omega arith in e) ∙ h (j + 1) (omega (arith, l))))
    ∙ ap (λ m. suc (min k n + m)) (ap lows (row_at at (clock + 1 + k) (clock + suc k) (n - k) (suc n - suc k) (omega arith) (omega arith)))
    ∙ (let e : suc (min k n + lows (row at (clock + suc k) (suc n - suc k))) ≡ min (suc k) (suc n) + lows (row at (clock + suc k) (suc n - suc k)) = omega arith in e)

highs-for : (k clock n : ℕ) (at : ℕ → Bool) → ((j : ℕ) → j < k → at (clock + j) ≡ true) → highs (row at clock n) ≡ min k n + highs (row at (clock + k) (n - k))
highs-for zero clock n at h = ap highs (row_at at clock (clock + 0) n (n - 0) (omega arith) (omega arith)) ∙ (let e : highs (row at (clock + 0) (n - 0)) ≡ min 0 n + highs (row at (clock + 0) (n - 0)) = omega arith in e)
highs-for (suc k) clock zero at h = let e : highs (row at (clock + suc k) (0 - suc k)) ≡ 0 = ap (λ m. highs (row at (clock + suc k) m)) (let f : 0 - suc k ≡ 0 = omega arith in f) in omega (arith, e)
highs-for (suc k) clock (suc n) at h =
    ap (λ v. highs (v ∷ row at (clock + 1) n)) (ap at (let e : clock ≡ clock + 0 = omega arith in e) ∙ h 0 (omega arith))
    ∙ ap suc (highs-for k (clock + 1) n at (λ j l. ap at (let e : clock + 1 + j ≡ clock + (j + 1) = omega arith in e) ∙ h (j + 1) (omega (arith, l))))
    ∙ ap (λ m. suc (min k n + m)) (ap highs (row_at at (clock + 1 + k) (clock + suc k) (n - k) (suc n - suc k) (omega arith) (omega arith)))
    ∙ (let e : suc (min k n + highs (row at (clock + suc k) (suc n - suc k))) ≡ min (suc k) (suc n) + highs (row at (clock + suc k) (suc n - suc k)) = omega arith in e)

not_high : (clock n : ℕ) (at : ℕ → Bool) → at clock ≡ false → highs (row at clock n) ≡ 0
not_high clock zero at h = refl
not_high clock (suc n) at h = ap (λ v. highs (v ∷ row at (clock + 1) n)) h

pub not_low : (clock n : ℕ) (at : ℕ → Bool) → at clock ≡ true → lows (row at clock n) ≡ 0
not_low clock zero at h = refl
not_low clock (suc n) at h = ap (λ v. lows (v ∷ row at (clock + 1) n)) h

one_low : (v : Bool) (rest : List Bool) → lows (v ∷ rest) ≤ suc (lows rest)
one_low true rest = omega arith
one_low false rest = omega arith

pub lows-most : (clock n : ℕ) (at : ℕ → Bool) → lows (row at clock n) ≤ n
lows-most clock zero at = omega arith
lows-most clock (suc n) at = let e = lows-most (clock + 1) n at in let f = one_low (at clock) (row at (clock + 1) n) in omega (arith, e, f)

drop-row : (k clock n : ℕ) (at : ℕ → Bool) → drop k (row at clock n) ≡ row at (clock + k) (n - k)
drop-row zero clock n at = row_at at clock (clock + 0) n (n - 0) (omega arith) (omega arith)
drop-row (suc k) clock zero at = ap (row at (clock + suc k)) (let e : 0 ≡ 0 - suc k = omega arith in e)
drop-row (suc k) clock (suc n) at = drop-row k (clock + 1) n at ∙ row_at at (clock + 1 + k) (clock + suc k) (n - k) (suc n - suc k) (omega arith) (omega arith)

-- of a row that ends before the level falls nothing is left
past : (clock high n : ℕ) (at : ℕ → Bool) → row at (clock + min high n) (n - min high n) ≡ row at (clock + high) (n - high)
past clock high n at = elim (cases_lt high n) [
  | inr short ↦ ap (row at (clock + min high n)) (let e : n - min high n ≡ 0 = omega (arith, short) in e) ∙ ap (row at (clock + high)) (let e : 0 ≡ n - high = omega (arith, short) in e)
  | inl long ↦ row_at at (clock + min high n) (clock + high) (n - min high n) (n - high) (omega (arith, long)) (omega (arith, long))
]

-- a pulse, which the end of the row may cut off
pub rises_here : (clock high n : ℕ) (at : ℕ → Bool) → 1 ≤ high → ((j : ℕ) → j < high → at (clock + j) ≡ true) → at (clock + high) ≡ false → 1 ≤ n
    → pulses_from clock false (row at clock n) ≡ record { start = clock; high = min high n; low = lows (row at (clock + high) (n - high)) } ∷ pulses_from (clock + high) false (row at (clock + high) (n - high))
rises_here clock high zero at some up down any = absurd (omega (arith, any))
rises_here clock high (suc n) at some up down any =
    starts clock false at n
    ∙ ap (λ v. cond (rises false v) (pulse_at clock (row at clock (suc n)) ∷ pulses_from (clock + 1) v (row at (clock + 1) n)) (pulses_from (clock + 1) v (row at (clock + 1) n))) (ap at (let e : clock ≡ clock + 0 = omega arith in e) ∙ up 0 (omega (arith, some)))
    ∙ ap (λ p. p ∷ pulses_from (clock + 1) true (row at (clock + 1) n)) pulse
    ∙ ap (λ ps. record { start = clock; high = min high (suc n); low = lows (row at (clock + high) (suc n - high)) } ∷ ps) rest where
      height : highs (row at clock (suc n)) ≡ min high (suc n)
      height = highs-for high clock (suc n) at up ∙ ap (λ m. min high (suc n) + m) (not_high (clock + high) (suc n - high) at down) ∙ (let e : min high (suc n) + 0 ≡ min high (suc n) = omega arith in e)

      pulse : pulse_at clock (row at clock (suc n)) ≡ record { start = clock; high = min high (suc n); low = lows (row at (clock + high) (suc n - high)) }
      pulse =
          ap (λ m. let p : Pulse = record { start = clock; high = m; low = lows (drop m (row at clock (suc n))) } in p) height
          ∙ ap (λ r. let p : Pulse = record { start = clock; high = min high (suc n); low = lows r } in p) (drop-row (min high (suc n)) clock (suc n) at ∙ past clock high (suc n) at)

      rest : pulses_from (clock + 1) true (row at (clock + 1) n) ≡ pulses_from (clock + high) false (row at (clock + high) (suc n - high))
      rest =
          stays (high - 1) (clock + 1) n at true (λ j l. ap at (let e : clock + 1 + j ≡ clock + (j + 1) = omega arith in e) ∙ up (j + 1) (omega (arith, l)))
          ∙ ap (λ c. pulses_from c true (row at c (n - (high - 1)))) (let e : clock + 1 + (high - 1) ≡ clock + high = omega (arith, some) in e)
          ∙ ap (λ m. pulses_from (clock + high) true (row at (clock + high) m)) (let e : n - (high - 1) ≡ suc n - high = omega (arith, some) in e)
          ∙ from_low (clock + high) (suc n - high) at down

-- the levels of a bit, and that the next one begins low
pub record IsBitRow (at : ℕ → Bool) (int clock : ℕ) (bit : Bool) : Type 0 where
  pub first : (j : ℕ) → j < 3 * int → at (clock + j) ≡ false
  pub second : (j : ℕ) → j < 2 * int → at (clock + 3 * int + j) ≡ true
  pub third : (j : ℕ) → j < 5 * int → at (clock + 5 * int + j) ≡ bit
  pub next : at (clock + 10 * int) ≡ false

-- how long the pin is low after the pulse, up to the end of the bit
abbrev pub low_in : (int n : ℕ) → Bool → ℕ
low_in int n bit = cond bit 0 (min (5 * int) (n - 5 * int))

-- a bit that is cut off before its pulse
pub before_pulse : (int clock n : ℕ) (at : ℕ → Bool) (bit : Bool) → IsBitRow at int clock bit → n ≤ 3 * int → pulses_from clock false (row at clock n) ≡ []
before_pulse int clock n at bit h short =
    stays (3 * int) clock n at false h.first ∙ ap (λ m. pulses_from (clock + 3 * int) false (row at (clock + 3 * int) m)) (let e : n - 3 * int ≡ 0 = omega (arith, short) in e) ∙ no_pulses (clock + 3 * int) false

-- the pulse of a bit, and those after the bit
pub pulse_of : (int clock n : ℕ) (at : ℕ → Bool) (bit : Bool) → 1 ≤ int → IsBitRow at int clock bit → 3 * int < n
    → pulses_from clock false (row at clock n)
    ≡ record { start = clock + 3 * int; high = min (high_of int bit) (n - 3 * int); low = low_in int n bit + lows (row at (clock + 10 * int) (n - 10 * int)) }
    ∷ pulses_from (clock + 10 * int) false (row at (clock + 10 * int) (n - 10 * int))
pulse_of int clock n at true some h long =
    stays (3 * int) clock n at false h.first
    ∙ rises_here (clock + 3 * int) (7 * int) (n - 3 * int) at (omega (arith, some)) up (ap at (let e : clock + 3 * int + 7 * int ≡ clock + 10 * int = omega arith in e) ∙ h.next) (omega (arith, long))
    ∙ ap (λ r. record { start = clock + 3 * int; high = min (7 * int) (n - 3 * int); low = lows r } ∷ pulses_from (clock + 3 * int + 7 * int) false r) (row_at at (clock + 3 * int + 7 * int) (clock + 10 * int) (n - 3 * int - 7 * int) (n - 10 * int) (omega arith) (omega arith))
    ∙ ap (λ c. record { start = clock + 3 * int; high = min (7 * int) (n - 3 * int); low = lows (row at (clock + 10 * int) (n - 10 * int)) } ∷ pulses_from c false (row at (clock + 10 * int) (n - 10 * int))) (let e : clock + 3 * int + 7 * int ≡ clock + 10 * int = omega arith in e)
    ∙ ap (λ l. record { start = clock + 3 * int; high = min (7 * int) (n - 3 * int); low = l } ∷ pulses_from (clock + 10 * int) false (row at (clock + 10 * int) (n - 10 * int))) (let e : lows (row at (clock + 10 * int) (n - 10 * int)) ≡ 0 + lows (row at (clock + 10 * int) (n - 10 * int)) = omega arith in e) where
      up : (j : ℕ) → j < 7 * int → at (clock + 3 * int + j) ≡ true
      up j l = elim (cases_lt j (2 * int)) [
        | inr later ↦ ap at (let e : clock + 3 * int + j ≡ clock + 5 * int + (j - 2 * int) = omega (arith, later) in e) ∙ h.third (j - 2 * int) (omega (arith, l, later))
        | inl first ↦ h.second j first
      ]
pulse_of int clock n at false some h long =
    stays (3 * int) clock n at false h.first
    ∙ rises_here (clock + 3 * int) (2 * int) (n - 3 * int) at (omega (arith, some)) h.second (ap at (let e : clock + 3 * int + 2 * int ≡ clock + 5 * int + 0 = omega arith in e) ∙ h.third 0 (omega (arith, some))) (omega (arith, long))
    ∙ ap (λ r. record { start = clock + 3 * int; high = min (2 * int) (n - 3 * int); low = lows r } ∷ pulses_from (clock + 3 * int + 2 * int) false r) (row_at at (clock + 3 * int + 2 * int) (clock + 5 * int) (n - 3 * int - 2 * int) (n - 5 * int) (omega arith) (omega arith))
    ∙ ap (λ c. record { start = clock + 3 * int; high = min (2 * int) (n - 3 * int); low = lows (row at (clock + 5 * int) (n - 5 * int)) } ∷ pulses_from c false (row at (clock + 5 * int) (n - 5 * int))) (let e : clock + 3 * int + 2 * int ≡ clock + 5 * int = omega arith in e)
    ∙ ap (λ l. record { start = clock + 3 * int; high = min (2 * int) (n - 3 * int); low = l } ∷ pulses_from (clock + 5 * int) false (row at (clock + 5 * int) (n - 5 * int)))
    (lows-for (5 * int) (clock + 5 * int) (n - 5 * int) at h.third ∙ ap (λ r. min (5 * int) (n - 5 * int) + lows r) (row_at at (clock + 5 * int + 5 * int) (clock + 10 * int) (n - 5 * int - 5 * int) (n - 10 * int) (omega arith) (omega arith)))
    ∙ ap (λ ps. record { start = clock + 3 * int; high = min (2 * int) (n - 3 * int); low = min (5 * int) (n - 5 * int) + lows (row at (clock + 10 * int) (n - 10 * int)) } ∷ ps)
    (stays (5 * int) (clock + 5 * int) (n - 5 * int) at false h.third
    ∙ ap (λ c. pulses_from c false (row at c (n - 5 * int - 5 * int))) (let e : clock + 5 * int + 5 * int ≡ clock + 10 * int = omega arith in e)
    ∙ ap (λ m. pulses_from (clock + 10 * int) false (row at (clock + 10 * int) m)) (let e : n - 5 * int - 5 * int ≡ n - 10 * int = omega arith in e))

-- how many of the levels before it are low
pub lead_of : (int clock n : ℕ) (at : ℕ → Bool) (bit : Bool) → 1 ≤ int → IsBitRow at int clock bit → lows (row at clock n) ≡ min (3 * int) n
lead_of int clock n at bit some h =
    lows-for (3 * int) clock n at h.first ∙ ap (λ k. min (3 * int) n + k) (not_low (clock + 3 * int) (n - 3 * int) at (ap at (let e : clock + 3 * int ≡ clock + 3 * int + 0 = omega arith in e) ∙ h.second 0 (omega (arith, some))))
    ∙ (let e : min (3 * int) n + 0 ≡ min (3 * int) n = omega arith in e)
