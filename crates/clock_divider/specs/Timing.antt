-- What a contract sees of a divider. Clocks are numbered from 0, and a period counts 1/256 clocks.
--   Timing      a divider
--   period_of   its period
--   first       a new one
--   stepped     one clock on
--   after_steps some clocks on, one by one
--   resumed     restarted in the present clock
use Rattle.std.specs.Prelude.{ℕ, zero, suc, ◌+◌, ◌*◌, ◌==◌, if◌then◌else◌}

-- A divider in some clock: that clock, the clock of its last restart, and its period in 1/256 clocks.
pub record Timing : Type 0 where
  pub clock : ℕ
  pub restarted : ℕ
  pub period : ℕ

-- 256 times the divider's whole part, which is 65,536 where it is written 0, and the fraction
-- (RP2040 Datasheet, 3.5.5 and SMx_CLKDIV in 3.7).
abbrev pub period_of : ℕ → ℕ → ℕ
period_of int frac = 256 * (if int == 0 then 65536 else int) + frac

-- A divider in clock 0, which counts as its restart (choice of this profile).
abbrev pub first : ℕ → Timing
first period = record { clock = 0; restarted = 0; period = period }

-- The divider one clock on.
abbrev pub stepped : Timing → Timing
stepped t = record t { clock = t.clock + 1 }

-- The divider after so many steps.
unfoldable pub after_steps : ℕ → Timing → Timing
after_steps zero t = t
after_steps (suc n) t = stepped (after_steps n t)

-- The divider restarted: its present clock is that of the last restart (RP2040 Datasheet, CLKDIV_RESTART in 3.7).
abbrev pub resumed : Timing → Timing
resumed t = record t { restarted = t.clock }
