-- The end-to-end promise: how a call of words ends, and what it asked of the shelf.
use Rattle.std.specs.Prelude.{Option, Some, None, List, Result, Ok, Err}
use Rattle.clap.specs.Walk.{Text}
use Rattle.pio_edge.specs.Fetched.{Fetched}
use Rattle.fault_lines.specs.declared.fault.Fault.{Fault}
use Rattle.commands.specs.Outside.{Call}
use Rattle.commands.specs.Promise.{Ends, AsksFor}
use Rattle.commands.specs.Wanted.{wanted}

-- how a call of these words ends
abbrev pub EndsAs : List Text → Call → Option Fault → Type 0
EndsAs words c found = Ends (wanted words) c found

-- the work of a call of these words ends as promised
abbrev pub WorkEnds : List Text → Call → Result (Unit {0}) Fault → Type 0
WorkEnds words c (Ok _) = EndsAs words c None
WorkEnds words c (Err e) = EndsAs words c (Some e)

-- what a call of these words asked of the shelf
abbrev pub CallAsks : List Text → (before after : List Fetched) → Option Fault → Type 0
CallAsks words before after found = AsksFor (wanted words) before after found

-- what the work of a call of these words asked
abbrev pub WorkAsks : List Text → (before after : List Fetched) → Result (Unit {0}) Fault → Type 0
WorkAsks words before after (Ok _) = CallAsks words before after None
WorkAsks words before after (Err e) = CallAsks words before after (Some e)
