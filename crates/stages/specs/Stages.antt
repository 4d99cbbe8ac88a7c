-- What the stages that read promise, one word for each.
--   Shelved     the shelf before and after a stage
--   Plan        what a stage reads, and what this comes to
--   Reads       a stage that reads gives what its plan comes to, or ends with its cause
--   KeepsPlan   the whole promise of a stage that reads
use Rattle.std.specs.Prelude.{◌≡◌, ℕ, Bool, true, Option, Some, None, List, ◌++◌, Result, Ok, Err, IfSome}
use Rattle.std.specs.FinMap.{get}
use Rattle.pio_edge.specs.Count.{Faults, failed_at}
use Rattle.pio_edge.specs.Edge.{Files}
use Rattle.pio_edge.specs.declared.shelf.Shelf.{Ghosts as ShelfSeen}
use Rattle.pio_assemble.specs.Program.{Assembled}
use Rattle.pin_matrix.specs.declared.assume.Follow.{Follow}
use Rattle.pin_matrix.specs.declared.setup.Setup.{Setup}
use Rattle.pin_matrix.specs.declared.span.Span.{Span}
use Rattle.dreq_pacing.specs.declared.line.Line.{Line}
use Rattle.block_config.specs.declared.owning.OwningSetup.{OwningSetup}
use Rattle.span_bounds.specs.declared.row.Row.{Row}
use Rattle.fault_lines.specs.declared.fault.File.{File}
use Rattle.fault_lines.specs.declared.fault.File.TheVariants as file
use Rattle.fault_lines.specs.declared.fault.Fault.{Fault}
use Rattle.fault_lines.specs.declared.fault.Fault.TheVariants as fault
use Rattle.stages.specs.declared.pair.TwoBlocks.{TwoBlocks}
use Rattle.stages.specs.Judged.{Judged, right, wrong, and_then, read_at, source_at, words_at, setup_at, second_at, schedule_at, schedules_at, prepared_at, pair_at, table_at, span_at, recheck_at}
use Rattle.stages.specs.Roles.{run_reaches, recheck_reaches, pair_reaches}
use Rattle.stages.specs.Fetching.{FileSlot, Asks, name_in, one_slot, run_slots, pair_slots}

-- there is one, and it satisfies the property
abbrev pub HasSuch : {X : Type 0} → Option X → (X → Type 0) → Type 0
HasSuch None P = ⊥
HasSuch (Some x) P = P x

-- the files where they are known, and the faults before and after a stage
pub record Shelved : Type 0 where
  pub files : Option Files
  pub before : Faults
  pub after : Faults

-- the same, by its parts
abbrev pub shelved : Option Files → Faults → Faults → Shelved
shelved files before after = record { files = files; before = before; after = after }

-- what a stage's files come to, the files in the order of reading, and which of them it comes to
pub record Plan (X : Type 0) : Type 0 where
  pub comes_to : Files → Judged X
  pub slots : List FileSlot
  pub reaches : Files → File → Bool

-- a stage that reads ends with a fault: one failed fetch, of a file that it comes to; out of memory; or the fault of
-- the files
abbrev pub ReadFails : {X : Type 0} → Shelved → Plan X → Fault → Type 0
ReadFails shelf plan (fault.Shelf role) =
    HasSuch (name_in plan.slots role) (λ name. shelf.after ≡ failed_at name shelf.before)
    × IfSome shelf.files (λ files. plan.reaches files role ≡ true)
ReadFails shelf plan fault.Memory = shelf.after ≡ shelf.before
ReadFails shelf plan fault.Usage = ⊥
ReadFails shelf plan fault.Out = ⊥
ReadFails shelf plan (fault.Unproved place name refusal) = ⊥
ReadFails shelf plan (fault.SecondUnproved place name refusal) = ⊥
ReadFails shelf plan (fault.Flaw place name flaw) = ⊥
ReadFails shelf plan e = (shelf.after ≡ shelf.before) × IfSome shelf.files (λ files. plan.comes_to files ≡ wrong e)

-- a stage that reads gives what the files come to, seen by a view, without a fault of the shelf; else it ends with its
-- cause
abbrev pub Reads : {X Y : Type 0} → (Y → X) → Shelved → Plan X → Result Y Fault → Type 0
Reads view shelf plan (Ok y) =
    (shelf.after ≡ shelf.before) × IfSome shelf.files (λ files. plan.comes_to files ≡ right (view y))
Reads view shelf plan (Err e) = ReadFails shelf plan e

-- A stage keeps its plan: it leaves what the shelf holds, gives what the files come to, seen by a view, or ends with
-- its cause, and asks for its files in order. The shelf is as it is seen before and after.
pub record KeepsPlan {F X Y : Type 0} (seen : ShelfSeen F) (plan : Plan X) (view : Y → X) (before after : F) (result : Result Y Fault) : Type 0 where
  pub same : seen.holds after ≡ seen.holds before
  pub stage : Reads view (shelved (seen.holds before) (seen.faults before) (seen.faults after)) plan result
  pub asked : Asks plan.slots (seen.fetched before) (seen.fetched after) result

-- ---- what each stage reads

-- a plan of files that all are reached
abbrev pub plan_of : {X : Type 0} → (Files → Judged X) → List FileSlot → Plan X
plan_of comes_to slots = record { comes_to = comes_to; slots = slots; reaches = λ files role. true }

-- one file's bytes
abbrev pub file_plan : File → List ℕ → Plan (List ℕ)
file_plan role name = plan_of (λ files. read_at role (get files name)) (one_slot role (Some name))

-- a source's programs
abbrev pub source_plan : List ℕ → Plan (List Assembled)
source_plan name = plan_of (λ files. source_at files name) (one_slot file.Source (Some name))

-- a file's words
abbrev pub words_plan : List ℕ → Plan (List ℕ)
words_plan name = plan_of (λ files. words_at files name) (one_slot file.Words (Some name))

-- the setup of programs under a configuration, or under none
abbrev pub setup_plan : Option (List ℕ) → List Assembled → Plan Setup
setup_plan name programs = plan_of (λ files. setup_at files name programs) (one_slot file.Config name)

-- the setup of programs under a second block's configuration, and the pins that it owns
abbrev pub second_plan : List ℕ → List Assembled → Plan OwningSetup
second_plan name programs = plan_of (λ files. second_at files name programs) (one_slot file.Second (Some name))

-- the lines of a stimulus, or of none
abbrev pub schedule_plan : Option (List ℕ) → Plan (List Line)
schedule_plan name = plan_of (λ files. schedule_at files name) (one_slot file.Stimulus name)

-- the lines of each block in the stimulus of two, or in none
abbrev pub schedules_plan : Option (List ℕ) → Plan (List Line × List Line)
schedules_plan name = plan_of (λ files. schedules_at files name) (one_slot file.Stimulus name)

-- a table file's rows
abbrev pub table_plan : Follow → List ℕ → Plan (List Row)
table_plan d name = plan_of (λ files. table_at d files name) (one_slot file.Table (Some name))

-- a setup and the lines of a stimulus
abbrev pub run_plan : List ℕ → Option (List ℕ) → Option (List ℕ) → Plan (Setup × List Line)
run_plan source config stimulus = record {
  comes_to = λ files. prepared_at files source config stimulus;
  slots = run_slots source config stimulus;
  reaches = λ files role. run_reaches files source config role;
}

-- two blocks and the lines of each
abbrev pub pair_plan : (source config second : List ℕ) → (stimulus : Option (List ℕ)) → Plan TwoBlocks
pair_plan source config second stimulus = record {
  comes_to = λ files. pair_at files source config second stimulus;
  slots = pair_slots source config second stimulus;
  reaches = λ files role. pair_reaches files source config second role;
}

-- a setup, and its span of this name
abbrev pub span_plan : List ℕ → Option (List ℕ) → (name : List ℕ) → Plan (Setup × Span)
span_plan source config name = record {
  comes_to = λ files. span_at files source config name;
  slots = run_slots source config None;
  reaches = λ files role. run_reaches files source config role;
}

-- the same, and then the rows of a table file
abbrev pub recheck_plan : List ℕ → Option (List ℕ) → (name table : List ℕ) → Plan ((Setup × Span) × List Row)
recheck_plan source config name table = record {
  comes_to = λ files. recheck_at files source config name table;
  slots = run_slots source config None ++ one_slot file.Table (Some table);
  reaches = λ files role. recheck_reaches files source config name role;
}

-- the same files, where something is made of what they come to
abbrev pub made_into : {X Y : Type 0} → Plan X → (X → Y) → Plan Y
made_into plan make = record {
  comes_to = λ files. and_then (plan.comes_to files) (λ x. right (make x));
  slots = plan.slots;
  reaches = plan.reaches;
}
