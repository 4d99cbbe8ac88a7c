-- What a divider keeps true of its fields, which no contract names.
use Rattle.std.specs.Prelude.{◌≡◌, ℕ, ◌+◌, ◌-◌, ◌*◌, ◌%◌, ◌^◌, ◌<◌, ◌≤◌}

-- So many clocks after the restart, `left` is the time in 1/256 clocks until the next whole number of periods is over.
pub record IsLeft (period elapsed left : ℕ) : Type 0 where
  pub below : left < period
  pub whole : (elapsed * 256 + left) % period ≡ 0

-- A divider's fields in their ranges, with the time that is left until the next tick.
pub record IsRunning (clock restarted period left : ℕ) : Type 0 where
  pub begun : restarted ≤ clock
  pub in_range : clock ≤ 2 ^ 40
  pub shortest : 256 ≤ period
  pub longest : period ≤ 2 ^ 24
  pub next : IsLeft period (clock - restarted) left
