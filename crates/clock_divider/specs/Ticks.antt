-- Which clocks are ticks of a divider, by the clock of its last restart and its period in 1/256 clocks.
--   IsTickClock  that a clock is a tick
--   is_tick      the same as a test, which computes
--   tick_count   how many of some clocks in a row are ticks
use Rattle.std.specs.Prelude.{◌≡◌, ℕ, zero, suc, ◌+◌, ◌-◌, ◌*◌, ◌/◌, Bool, ◌&&◌, nat_le, nat_lt, if◌then◌else◌}

-- A clock is a tick where, for some k, k periods after the restart are over within it: tick k falls in the clock
-- restarted + floor(k * period / 256) (RP2040 Datasheet, 3.5.5; that tick 0 is at once is a choice of this profile).
abbrev pub IsTickClock : ℕ → ℕ → ℕ → Type 0
IsTickClock restarted period clock = (k : ℕ) × (restarted + k * period / 256 ≡ clock)

-- The same as a test (the law `tick_test`): of the times that are whole numbers of periods after the restart, the first
-- that is not before this clock is before the next one.
unfoldable pub is_tick : ℕ → ℕ → ℕ → Bool
is_tick restarted period clock =
    let elapsed = clock - restarted in
    nat_le restarted clock && nat_lt ((elapsed * 256 + (period - 1)) / period * period) ((elapsed + 1) * 256)

-- How many of the n clocks from this one on are ticks.
unfoldable pub tick_count : ℕ → ℕ → ℕ → ℕ → ℕ
tick_count restarted period clock zero = 0
tick_count restarted period clock (suc n) =
    tick_count restarted period clock n + (if is_tick restarted period (clock + n) then 1 else 0)
