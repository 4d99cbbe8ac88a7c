-- When a stage or a command comes to a file: what it reads before is right.
use Rattle.std.specs.Prelude.{ℕ, Bool, true, Option, List}
use Rattle.pio_edge.specs.Edge.{Files}
use Rattle.fault_lines.specs.declared.fault.File.{File}
use Rattle.fault_lines.specs.declared.fault.File.TheVariants as file
use Rattle.stages.specs.Judged.{is_right, and_then, source_at, config_at, second_at, setup_at, span_at}

-- a run comes to the file of this role: what it reads before is right
abbrev pub run_reaches : Files → List ℕ → Option (List ℕ) → File → Bool
run_reaches files source config file.Config = is_right (source_at files source)
run_reaches files source config file.Stimulus = is_right (and_then (source_at files source) (setup_at files config))
run_reaches files source config role = true

-- a recheck comes to the file of this role: what it reads before is right, and of a table, that a span has the name
abbrev pub recheck_reaches : Files → List ℕ → Option (List ℕ) → List ℕ → File → Bool
recheck_reaches files source config name file.Table = is_right (span_at files source config name)
recheck_reaches files source config name role = run_reaches files source config role

-- source and first configuration of two blocks are right
abbrev pub first_is_right : Files → (source config : List ℕ) → Bool
first_is_right files source config = is_right (and_then (source_at files source) (config_at files config))

-- and so is the second configuration
abbrev pub both_are_right : Files → (source config second : List ℕ) → Bool
both_are_right files source config second =
    is_right (and_then (source_at files source) (λ programs. and_then (config_at files config programs) (λ first. second_at files second programs)))

-- such a run comes to the file of this role: what it reads before is right
abbrev pub pair_reaches : Files → (source config second : List ℕ) → File → Bool
pair_reaches files source config second file.Config = is_right (source_at files source)
pair_reaches files source config second file.Second = first_is_right files source config
pair_reaches files source config second file.Stimulus = both_are_right files source config second
pair_reaches files source config second role = true
