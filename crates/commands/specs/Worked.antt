-- How many clocks a command works out singly at most.
--   worked_at     of a run whose files come to something, whether they are known or not
--   most_worked   of a command
use Rattle.std.specs.Prelude.{ℕ, Option, Some, None, List}
use Rattle.std.specs.FinMap.{get}
use Rattle.pio_edge.specs.Edge.{Files}
use Rattle.block_core.specs.Block.{first_run}
use Rattle.idle_engine.specs.Worked.{worked_in, twin_worked_in}
use Rattle.drawn_load.specs.Loads.{lines_of}
use Rattle.drawn_load.specs.Summaries.{start_of}
use Rattle.fault_lines.specs.declared.fault.File.TheVariants.{Send}
use Rattle.pio_uart.specs.Feeding.{fed}
use Rattle.pio_uart.specs.OneSetup.{transmitter_of}
use Rattle.command_line.specs.Words.{Asked, run, gen, measure, receive, uart, pair, inspect}
use Rattle.stages.specs.Judged.{Judged, right, wrong, prepared_at, read_at, pair_at}
use Rattle.commands.specs.Tasks.{twin_start}

-- of what the files come to so many clocks; none if they have a fault
abbrev pub worked_if : {X : Type 0} → (X → ℕ) → Judged X → ℕ
worked_if worked (right x) = worked x
worked_if worked (wrong e) = 0

-- the same of known files; of files that aren't known it says only that it is at most the clocks asked
abbrev pub worked_at : {X : Type 0} → Option Files → (Files → Judged X) → (X → ℕ) → (clocks : ℕ) → ℕ
worked_at (Some files) comes_to worked clocks = worked_if worked (comes_to files)
worked_at None comes_to worked clocks = clocks

-- of a block that a run's files set up
abbrev pub run_worked : Option Files → (source : List ℕ) → (config stimulus : Option (List ℕ)) → (clocks : ℕ) → ℕ
run_worked files source config stimulus clocks =
    worked_at files (λ f. prepared_at f source config stimulus) (λ p. worked_in (first_run p.0) p.1 clocks) clocks

-- of a command; those that run nothing work out no clock
abbrev pub most_worked : Option Files → Asked → ℕ
most_worked files (run source config stimulus clocks) = run_worked files source config stimulus clocks
most_worked files (measure source config stimulus clocks) = run_worked files source config stimulus clocks
most_worked files (receive source config stimulus clocks pin bit) = run_worked files source config stimulus clocks
most_worked files (inspect source config stimulus clocks) = run_worked files source config stimulus clocks
most_worked files (uart send divider clocks) =
    worked_at files (λ f. read_at Send (get f send)) (λ bytes. worked_in (first_run (transmitter_of divider)) (fed bytes) clocks) clocks
most_worked files (pair source config second stimulus clocks) =
    worked_at files (λ f. pair_at f source config second stimulus)
    (λ p. twin_worked_in (twin_start p) p.first_lines p.second_lines clocks) clocks
most_worked files (gen seed clocks) = worked_in (start_of seed) (lines_of seed) clocks
most_worked files a = 0
