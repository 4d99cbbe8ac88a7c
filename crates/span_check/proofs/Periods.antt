-- Clocks and ticks of a divider, on numbers alone. Tick k after a restart in clock r comes in clock r + k * period / 256.
use Rattle.std.proofs.Common.{◌≡◌, ℕ, suc, ◌+◌, ◌-◌, ◌*◌, ◌/◌, ◌<◌, ◌≤◌, inl, inr, ap, ◌∙◌, arith}
use Rattle.std.proofs.Math.Nat.{div-mul-le_self, lt-div-mul-add, mul-le-mul_right}
use Rattle.std.proofs.lemmas.Bool.{cases_lt}

-- so many ticks after tick k, the next one isn't before clock c, and the last one is
pub record IsBetween (restarted period k n c : ℕ) : Type 0 where
  pub last : restarted + (k + n) * period / 256 < c
  pub next : c ≤ restarted + (k + n + 1) * period / 256

-- a tick takes a clock or more
longer : (period k : ℕ) → 256 ≤ period → k * period / 256 < (k + 1) * period / 256
longer period k h = omega arith

grows : (period j k : ℕ) → j ≤ k → j * period / 256 ≤ k * period / 256
grows period j k h = omega (arith, mul-le-mul_right {m = j} {n = k} period h)

pub between-start : (restarted period k s : ℕ) → 256 ≤ period → restarted + k * period / 256 ≡ s → IsBetween restarted period k 0 (suc s)
between-start restarted period k s h e = record { last = omega (arith, e); next = omega (arith, e, longer period k h) }

-- the tick in a clock is the next one
which : (restarted period k n c j : ℕ) → 256 ≤ period → IsBetween restarted period k n c → restarted + j * period / 256 ≡ c → restarted + (k + n + 1) * period / 256 ≡ c
which restarted period k n c j h b e = elim (cases_lt (k + n) j) [
  | inl on ↦ elim (cases_lt (k + n + 1) j) [
    | inl late ↦ absurd (omega (arith, grows period (k + n + 1 + 1) j (omega arith), longer period (k + n + 1) h, b.next, e))
    | inr now ↦ let same : k + n + 1 ≡ j = omega (arith, on, now) in ap (λ i. restarted + i * period / 256) same ∙ e
  ]
  | inr early ↦ absurd (omega (arith, grows period j (k + n) early, b.last, e))
]

pub between-tick : (restarted period k n c j : ℕ) → 256 ≤ period → IsBetween restarted period k n c → restarted + j * period / 256 ≡ c → IsBetween restarted period k (n + 1) (suc c)
between-tick restarted period k n c j h b e =
    let now = which restarted period k n c j h b e in
    let more = longer period (k + n + 1) h in
    record { last = omega (arith, now); next = omega (arith, now, more) }

pub between-idle : (restarted period k n c : ℕ) → IsBetween restarted period k n c → ((j : ℕ) → restarted + j * period / 256 ≡ c → ⊥) → IsBetween restarted period k n (suc c)
between-idle restarted period k n c b none = record { last = omega (arith, b.last); next = elim (cases_lt c (restarted + (k + n + 1) * period / 256)) [ inl more ↦ omega (arith, more) | inr le ↦ absurd (none (k + n + 1) (omega (arith, le, b.next))) ] }

-- no more ticks than fit into `max` clocks take no more
pub no-more : (period k n max : ℕ) → 256 ≤ period → n ≤ 256 * max / period → (k + n) * period / 256 ≤ k * period / 256 + max
no-more period k n max h le =
    let whole = mul-le-mul_right {m = n} {n = 256 * max / period} period le in
    let part = div-mul-le_self (256 * max) period in
    omega (arith, whole, part)

-- as many ticks as `min` clocks take at least as many
pub no-less : (period k n min : ℕ) → 256 ≤ period → (256 * min + period - 1) / period ≤ n → k * period / 256 + min ≤ (k + n) * period / 256
no-less period k n min h le =
    let whole = mul-le-mul_right {m = (256 * min + period - 1) / period} {n = n} period le in
    let part = lt-div-mul-add {a = 256 * min + period - 1} {b = period} (omega arith) in
    omega (arith, whole, part)
