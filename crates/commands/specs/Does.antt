-- What the stage does that has a command's task, once the files are read: how it ends, and what the output has then
-- taken.
--   Does         all is done, or why not
--   HasWritten   the text of a task was written
--   HasLeft      what is written where a span isn't provable
use Rattle.std.specs.Prelude.{◌≡◌, [], Result, Ok, Err}
use Rattle.pio_edge.specs.Edge.{Rose, with_bytes, TakesPrefix}
use Rattle.fault_lines.specs.declared.fault.File.TheVariants.{Table}
use Rattle.fault_lines.specs.declared.fault.Fault.{Fault}
use Rattle.fault_lines.specs.declared.fault.Fault.TheVariants as fault
use Rattle.fault_lines.specs.Output.{Output}
use Rattle.commands.specs.Needs.{IsMet, RequiredBefore, AllRunsHold, IsRefusedBy, IsSecondRefusedBy, IsFlawed}
use Rattle.commands.specs.Tasks.{Task, verdicts, HasText, HasLongText}

-- the output took exactly the text of a task, and handed all of it on
pub record HasWritten (task : Task) (before after : Output) : Type 0 where
  pub text : HasText task (λ text. after.taken ≡ with_bytes before.taken text)
  pub handed : after.waiting ≡ []
  pub faults : after.faults ≡ before.faults

-- where a span isn't provable, the lines of verdicts are written all the same, and nothing else is
abbrev pub HasLeft : Task → (before after : Output) → Type 0
HasLeft (verdicts u) before after = HasWritten (verdicts u) before after
HasLeft task before after = after ≡ before

-- A task is done: its text was written, what it needs of spans is met, and they hold in every run. Or the output failed
-- after a first part of the text; or memory ran out, a span isn't provable, a table has a flaw, or the text is too
-- long, before the first piece.
abbrev pub Does : Task → (before after : Output) → Result (Unit {0}) Fault → Type 0
Does task before after (Ok _) = HasWritten task before after × (IsMet task × AllRunsHold task)
Does task before after (Err fault.Out) =
    HasText task (λ text. TakesPrefix before.taken text after.taken) × (RequiredBefore task × Rose before.faults after.faults)
Does task before after (Err fault.Memory) = after ≡ before
Does task before after (Err (fault.Unproved place name refusal)) = IsRefusedBy task place name refusal × HasLeft task before after
Does task before after (Err (fault.SecondUnproved place name refusal)) = IsSecondRefusedBy task place name refusal × (after ≡ before)
Does task before after (Err (fault.Flaw place name flaw)) = IsFlawed task place name flaw × (after ≡ before)
Does task before after (Err (fault.TooLong Table)) = (HasLongText task × IsMet task) × (after ≡ before)
Does task before after (Err e) = ⊥
