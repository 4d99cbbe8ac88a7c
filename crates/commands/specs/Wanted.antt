-- What the words of a call want done.
use Rattle.std.specs.Prelude.{Option, Some, None, option_and_then, List, [], ◌∷◌, if◌then◌else◌}
use Rattle.clap.specs.Walk.{Text}
use Rattle.clap.specs.Faults.{fault_of}
use Rattle.command_line.specs.Tool.{tool}
use Rattle.command_line.specs.Words.{Asked, asked_of, has_no_room}

-- what is asked for, unless side-set has no room for it (RP2040 Datasheet, section 3.5.1)
abbrev pub with_room : Asked → Option Asked
with_room a = if has_no_room a then None else Some a

-- what is asked for where there are no faults
abbrev pub unless_faulty : {F : Type 0} → List F → Option Asked → Option Asked
unless_faulty [] asked = option_and_then with_room asked
unless_faulty (fault ∷ faults) asked = None

-- What the words ask for: what the matches of `tool` ask for, and nothing where clap gives no matches, or where `--opt`
-- is with `--side 5`
unfoldable pub wanted : List Text → Option Asked
wanted words = unless_faulty (fault_of tool words) (asked_of words)
