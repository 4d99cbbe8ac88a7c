-- A pin's levels, one after each clock.
--   row              the levels of so many clocks from one on
--   up_in            the level after a clock of a run
--   levels_in        the levels that the run's samples tell
use Rattle.std.specs.Prelude.{ℕ, zero, suc, ◌+◌, ◌==◌, Bool, List, [], ◌∷◌, map}
use Rattle.pin_matrix.specs.Pins.{is_high}
use Rattle.pin_matrix.specs.declared.setup.Setup.{Setup}
use Rattle.dreq_pacing.specs.declared.line.Line.{Line}
use Rattle.block_core.specs.Block.{first_run}
use Rattle.block_core.specs.Hosted.{samples}
use Rattle.program_runs.specs.Clocks.{level_in}

-- the levels of so many clocks from one on
abbrev pub row : (ℕ → Bool) → ℕ → ℕ → List Bool
row at c zero = []
row at c (suc n) = at c ∷ row at (c + 1) n

-- whether the pin is high after a clock
abbrev pub up_in : Setup → List Line → (pin c : ℕ) → Bool
up_in u lines pin c = level_in u lines pin (suc c) == 1

-- the pin's levels in the samples of the first n clocks of a setup's run with these lines
abbrev pub levels_in : Setup → List Line → (pin n : ℕ) → List Bool
levels_in u lines pin n = map (λ s. is_high s.level pin) (samples (first_run u) lines n)
