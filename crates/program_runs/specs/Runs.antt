-- A machine with a whole divider, tick by tick.
--   ticks_in         how many ticks are in so many clocks
--   GoesByTicks      its run is a sequence of steps, one every so many clocks
use Rattle.std.specs.Prelude.{◌≡◌, ℕ, suc, ◌+◌, ◌-◌, ◌*◌, ◌/◌, ◌<◌, List, [], ◌++◌, slice_get}
use Rattle.std.specs.Int.{bit_at}
use Rattle.pin_matrix.specs.declared.machine.MachineSetup.{MachineSetup}
use Rattle.pin_matrix.specs.declared.setup.Setup.{Setup}
use Rattle.sm_registers.specs.State.{first_registers}
use Rattle.dreq_pacing.specs.declared.line.Line.{Line}
use Rattle.block_core.specs.Block.{first_run}
use Rattle.program_runs.specs.Accepted.{accepted}
use Rattle.program_runs.specs.Clocks.{regs_in, tx_in, level_in, taken_in}
use Rattle.program_runs.specs.Steps.{IsStep, takes}

-- how many ticks are in the first n clocks, with one in clock 0 and every `int` clocks
abbrev pub ticks_in : (int n : ℕ) → ℕ
ticks_in int n = (n + (int - 1)) / int

-- The run of the machine with this number, with these lines and tick t in clock `int * t`.
pub record GoesByTicks (u : Setup) (lines : List Line) (id : ℕ) (s : MachineSetup) (pin int : ℕ) : Type 0 where
  -- as it begins
  pub first_regs : regs_in u lines s (int * 0) ≡ first_registers s
  pub first_tx : tx_in u lines s (int * 0) ≡ []
  pub first_level : level_in u lines pin (int * 0) ≡ bit_at u.level pin
  -- each tick is a step from what is there at its start to what is there at the next one's
  pub step : (t : ℕ) → IsStep s u.memory pin (regs_in u lines s (int * t)) (level_in u lines pin (int * t))
      (regs_in u lines s (int * (t + 1))) (level_in u lines pin (int * (t + 1))) (taken_in u lines s (int * t))
  -- in which it sees the front of its TX
  pub front : (t : ℕ) → (step t).queues.front ≡ slice_get (tx_in u lines s (int * t)) 0
  -- the level after each clock of a tick is that after the tick
  pub level : (t e : ℕ) → e < int → level_in u lines pin (suc (int * t + e)) ≡ level_in u lines pin (int * (t + 1))
  -- the words that TX accepted by some clock are those that it took at its ticks, and then those that wait
  pub words : (n : ℕ) → accepted (first_run u) lines id n ≡ takes (λ t. taken_in u lines s (int * t)) 0 (ticks_in int n) ++ tx_in u lines s n
