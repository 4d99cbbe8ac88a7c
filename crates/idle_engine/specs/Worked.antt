-- How many of a run's clocks are worked out singly: clock 0, and those that stir.
--   worked_in        of a block with a stimulus
--   twin_worked_in   of two blocks, each beside its own: a clock stirs that stirs in either
use Rattle.std.specs.Prelude.{ℕ, List}
use Rattle.dreq_pacing.specs.declared.line.Line.{Line}
use Rattle.block_core.specs.Block.{Run}
use Rattle.block_core.specs.Hosted.{hosted_at}
use Rattle.block_core.specs.HostedTwin.{hosted_twin_at, twin_stirs_in}
use Rattle.block_core.specs.Stirring.{stirs_in, worked}
use Rattle.block_core.specs.Twin.{TwinRun}

-- of the first clocks of a block's run
abbrev pub worked_in : Run → List Line → (clocks : ℕ) → ℕ
worked_in start lines clocks = worked (λ c. stirs_in lines (hosted_at start lines c)) clocks

-- of the first clocks of the run of two blocks
abbrev pub twin_worked_in : TwinRun → (first second : List Line) → (clocks : ℕ) → ℕ
twin_worked_in start first second clocks = worked (λ c. twin_stirs_in first second (hosted_twin_at start first second c)) clocks
