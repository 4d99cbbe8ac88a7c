-- What the stages that write promise.
--   Writes      the output took the text and handed it on, or the stage ended with its cause
--   SinkWrites  the same of a sink, before and after
use Rattle.std.specs.Prelude.{◌≡◌, ℕ, List, [], Result, Ok, Err}
use Rattle.pio_edge.specs.Edge.{Rose, with_bytes, TakesPrefix}
use Rattle.pio_edge.specs.declared.sink.Sink.{Ghosts as SinkSeen}
use Rattle.fault_lines.specs.declared.fault.Fault.{Fault}
use Rattle.fault_lines.specs.declared.fault.Fault.TheVariants as fault
use Rattle.fault_lines.specs.Output.{Output}
use Rattle.commands.specs.Outside.{output_by}

-- the output took the text and handed it on
pub record HasTaken (before : Output) (text : List ℕ) (after : Output) : Type 0 where
  pub taken : after.taken ≡ with_bytes before.taken text
  pub handed : after.waiting ≡ []
  pub faults : after.faults ≡ before.faults

-- the output took a first part of the text, and failed
pub record TakesPart (before : Output) (text : List ℕ) (after : Output) : Type 0 where
  pub part : TakesPrefix before.taken text after.taken
  pub rose : Rose before.faults after.faults

-- a stage that writes took the text and handed it on; or the output failed; or memory ran out before the first piece
abbrev pub Writes : Output → Output → List ℕ → Result (Unit {0}) Fault → Type 0
Writes before after text (Ok _) = HasTaken before text after
Writes before after text (Err fault.Out) = TakesPart before text after
Writes before after text (Err fault.Memory) = after ≡ before
Writes before after text (Err e) = ⊥

-- the same of a sink, as it is seen
abbrev pub SinkWrites : {O : Type 0} → SinkSeen O → (before after : O) → List ℕ → Result (Unit {0}) Fault → Type 0
SinkWrites seen before after text result = Writes (output_by seen before) (output_by seen after) text result
