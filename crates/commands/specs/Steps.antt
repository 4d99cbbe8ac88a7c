-- How many clocks a call works out singly at most.
use Rattle.std.specs.Prelude.{ℕ, Option, List}
use Rattle.std.specs.Option.{option_map_or}
use Rattle.pio_edge.specs.Edge.{Files}
use Rattle.clap.specs.Walk.{Text}
use Rattle.command_line.specs.Words.{asked_of}
use Rattle.commands.specs.Worked.{most_worked}

-- at most the clocks that stir, and one more, of what the words ask for
abbrev pub worked_for : Option Files → List Text → ℕ
worked_for files words = option_map_or (most_worked files) (asked_of words) 0
