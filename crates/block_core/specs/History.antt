-- What the lines of a run's history have done up to a clock: the pads, the restarts, which machines are enabled.
--   pad_at, last_pad, pad_before      the pads of a clock, of the clock before, and of two clocks before
--   restarted_before, restarted_at     the clock of a machine's last restart
--   enabled_before, enabled_at         whether it is enabled
--   Ticks                   that the clock is a tick of it
--   OfEach                  of each machine
use Rattle.std.specs.Prelude.{ℕ, zero, suc, Bool, true, false, Option, IfSome, List, if◌then◌else◌, slice_index_or, IsTrue}
use Rattle.std.specs.List.{AllByRecursion}
use Rattle.clock_divider.specs.Timing.{period_of}
use Rattle.clock_divider.specs.Ticks.{IsTickClock}
use Rattle.pin_matrix.specs.declared.machine.MachineSetup.{MachineSetup}
use Rattle.block_core.specs.Slots.{Slot, enabled_by}
use Rattle.pin_matrix.specs.declared.setup.Setup.{Setup}
use Rattle.pin_matrix.specs.Pads.{pads_of}
use Rattle.dreq_pacing.specs.declared.due.Due.{Due}
use Rattle.block_core.specs.Block.{pads_in, run_at}

-- the pads of a clock: the levels and directions at its start, and the outside levels with its lines
abbrev pub pad_at : Setup → (ℕ → Due) → ℕ → ℕ
pad_at s host clock = pads_in (host clock) (run_at s host clock).state

-- the pads of the clock before; before clock 0 those of the setup, without a line
abbrev pub last_pad : Setup → (ℕ → Due) → ℕ → ℕ
last_pad s host zero = pads_of s.level s.out s.high
last_pad s host (suc clock) = pad_at s host clock

-- the pads of two clocks before; before clock 0 they were always those of the setup, without a line
abbrev pub pad_before : Setup → (ℕ → Due) → ℕ → ℕ
pad_before s host zero = pads_of s.level s.out s.high
pad_before s host (suc zero) = pads_of s.level s.out s.high
pad_before s host (suc (suc clock)) = pad_at s host clock

-- the last clock before this one in which a line restarts the machine's divider, 0 where there is none
unfoldable pub restarted_before : (ℕ → Due) → ℕ → ℕ → ℕ
restarted_before host id zero = 0
restarted_before host id (suc clock) = if slice_index_or (host clock).restart id false then clock else restarted_before host id clock

-- the same with this clock's line, which acts before the clock's tick
abbrev pub restarted_at : (ℕ → Due) → ℕ → ℕ → ℕ
restarted_at host id clock = if slice_index_or (host clock).restart id false then clock else restarted_before host id clock

-- whether the machine is enabled at the clock's start: it is until a line disables it (choice of this profile)
unfoldable pub enabled_before : (ℕ → Due) → ℕ → ℕ → Bool
enabled_before host id zero = true
enabled_before host id (suc clock) = enabled_by (host clock) id (enabled_before host id clock)

-- the same with this clock's lines
abbrev pub enabled_at : (ℕ → Due) → ℕ → ℕ → Bool
enabled_at host id clock = enabled_by (host clock) id (enabled_before host id clock)

-- The clock is a tick of the machine: it is enabled, and for some k, k periods after the last restart fall into it.
pub record Ticks (host : ℕ → Due) (s : MachineSetup) (clock : ℕ) : Type 0 where
  pub enabled : IsTrue (enabled_at host s.id clock)
  pub period : IsTickClock (restarted_at host s.id clock) (period_of s.int s.frac) clock

-- what holds of the machine at each place where one is configured
abbrev pub OfEach : (Slot → Type 0) → List (Option Slot) → Type 0
OfEach P places = AllByRecursion (λ place. IfSome place P) places
