-- The promise: which end a command has, what it wrote, why, and which files it asked for.
use Rattle.std.specs.Prelude.{◌≡◌, ℕ, true, Option, Some, None, IfSome, List, [], ◌++◌, Result, Ok, Err}
use Rattle.pio_edge.specs.Count.{failed_at}
use Rattle.pio_edge.specs.Edge.{Rose, with_bytes, TakesPrefix}
use Rattle.pio_edge.specs.Fetched.{Fetched}
use Rattle.fault_lines.specs.declared.fault.File.{File}
use Rattle.fault_lines.specs.declared.fault.File.TheVariants as file
use Rattle.fault_lines.specs.declared.fault.Fault.{Fault}
use Rattle.fault_lines.specs.declared.fault.Fault.TheVariants as fault
use Rattle.span_verdict.specs.declared.table_flaw.Flaw.{Flaw}
use Rattle.span_texts.specs.declared.refusal.Refusal.{Refusal}
use Rattle.command_line.specs.Words.{Asked, run, check, table, recheck, pair}
use Rattle.stages.specs.Judged.{wrong}
use Rattle.stages.specs.Stages.{HasSuch}
use Rattle.stages.specs.Fetching.{FileSlot, fetches_of, run_slots, AsksUntil}
use Rattle.commands.specs.Outside.{Call, Untouched, SameShelf, SameOut}
use Rattle.commands.specs.Needs.{IsMet, RequiredBefore, AllRunsHold, IsRefusedBy, IsSecondRefusedBy, IsFlawed}
use Rattle.commands.specs.Tasks.{judge, ComesTo, HasText, HasLongText, slots_of, file_in, reaches}

-- the output took exactly the text, and handed all of it on
pub record WritesText (c : Call) (a : Asked) : Type 0 where
  pub text : ComesTo c a (λ task. HasText task (λ text. c.out_after.taken ≡ with_bytes c.out_before.taken text))
  pub handed : c.out_after.waiting ≡ []
  pub out : c.out_after.faults ≡ c.out_before.faults

-- all was done: the text was written, each span that was required is provable, or proved by a table, so it holds in every
-- run; nothing failed
pub record Passes (c : Call) (a : Asked) : Type 0 where
  pub writes : WritesText c a
  pub spans : ComesTo c a IsMet
  pub holds : ComesTo c a AllRunsHold
  pub shelf : SameShelf c

-- what is written where a span isn't provable: the whole text by `check`, and nothing by the other commands that require
-- spans; the rest require none
abbrev pub WritesRefused : Asked → Call → Type 0
WritesRefused (run source config stimulus clocks) c = SameOut c
WritesRefused (check source config) c = WritesText c (check source config)
WritesRefused (table source config name) c = SameOut c
WritesRefused (recheck source config name file) c = SameOut c
WritesRefused (pair source config second stimulus clocks) c = SameOut c
WritesRefused a c = ⊥

-- this is the first span that isn't provable, by its place and name, and why; nothing failed
pub record RefusesSpan (c : Call) (a : Asked) (place : ℕ) (name : List ℕ) (refusal : Refusal) : Type 0 where
  pub first : ComesTo c a (λ task. IsRefusedBy task place name refusal)
  pub out : WritesRefused a c
  pub shelf : SameShelf c

-- this is the first span of the second block that isn't provable, and why; nothing was written, and nothing failed
pub record RefusesSecond (c : Call) (a : Asked) (place : ℕ) (name : List ℕ) (refusal : Refusal) : Type 0 where
  pub first : ComesTo c a (λ task. IsSecondRefusedBy task place name refusal)
  pub untouched : Untouched c

-- this is wrong first with the table, and nothing was written
pub record Flawed (c : Call) (a : Asked) (place : ℕ) (name : List ℕ) (flaw : Flaw) : Type 0 where
  pub first : ComesTo c a (λ task. IsFlawed task place name flaw)
  pub untouched : Untouched c

-- one fetch failed, and it was that of the command's file of this role, to which it comes
pub record ShelfFails (c : Call) (a : Asked) (role : File) : Type 0 where
  pub named : HasSuch (file_in a role) (λ name. c.shelf_after ≡ failed_at name c.shelf_before)
  pub reached : IfSome c.files (λ f. reaches f a role ≡ true)
  pub out : SameOut c

-- the output failed, after a first part of the text
pub record OutFails (c : Call) (a : Asked) : Type 0 where
  pub part : ComesTo c a (λ task. HasText task (λ text. TakesPrefix c.out_before.taken text c.out_after.taken))
  pub spans : ComesTo c a RequiredBefore
  pub rose : Rose c.out_before.faults c.out_after.faults
  pub shelf : SameShelf c

-- the known files give this fault first, and nothing was written
pub record Faulty (c : Call) (a : Asked) (e : Fault) : Type 0 where
  pub judged : IfSome c.files (λ f. judge f a ≡ wrong e)
  pub untouched : Untouched c

-- the text is longer than a file of its kind may be; each span that is required is provable, nothing was written, and
-- nothing failed
pub record LongText (c : Call) (a : Asked) : Type 0 where
  pub text : ComesTo c a HasLongText
  pub spans : ComesTo c a IsMet
  pub untouched : Untouched c

-- A file is too long: one that the command reads, or the table that `table` would write, for it reads none.
abbrev pub EndsTooLong : Asked → Call → File → Type 0
EndsTooLong (table source config name) c file.Table = LongText c (table source config name)
EndsTooLong a c role = Faulty c a (fault.TooLong role)

-- how a call ends whose words ask for this, or for nothing
abbrev pub Ends : Option Asked → Call → Option Fault → Type 0
Ends (Some a) c None = Passes c a
Ends None c (Some fault.Usage) = Untouched c
Ends asked c (Some fault.Memory) = Untouched c
Ends (Some a) c (Some (fault.Shelf role)) = ShelfFails c a role
Ends (Some a) c (Some (fault.Unproved place name refusal)) = RefusesSpan c a place name refusal
Ends (Some a) c (Some (fault.SecondUnproved place name refusal)) = RefusesSecond c a place name refusal
Ends (Some a) c (Some (fault.Flaw place name flaw)) = Flawed c a place name flaw
Ends (Some a) c (Some fault.Out) = OutFails c a
Ends (Some a) c (Some (fault.TooLong role)) = EndsTooLong a c role
Ends None c found = ⊥
Ends (Some a) c (Some fault.Usage) = ⊥
Ends (Some a) c (Some e) = Faulty c a e

-- a command that was asked for ends as promised
abbrev pub CommandEnds : Asked → Call → Result (Unit {0}) Fault → Type 0
CommandEnds a c (Ok _) = Ends (Some a) c None
CommandEnds a c (Err e) = Ends (Some a) c (Some e)

-- ---- what was asked of the shelf

-- What was asked where a command with these files ends with this fault: all of them where it comes after the last file,
-- as that of a span, a table or the output does, and else what the stage has asked that ends with it.
abbrev pub AsksTo : List FileSlot → (before after : List Fetched) → Fault → Type 0
AsksTo slots before after (fault.Unproved place name refusal) = after ≡ before ++ fetches_of slots
AsksTo slots before after (fault.SecondUnproved place name refusal) = after ≡ before ++ fetches_of slots
AsksTo slots before after (fault.Flaw place name flaw) = after ≡ before ++ fetches_of slots
AsksTo slots before after fault.Out = after ≡ before ++ fetches_of slots
AsksTo slots before after e = AsksUntil slots before after e

-- what was asked of these files by a command that ends so
abbrev pub AsksFiles : List FileSlot → (before after : List Fetched) → Result (Unit {0}) Fault → Type 0
AsksFiles slots before after (Ok _) = after ≡ before ++ fetches_of slots
AsksFiles slots before after (Err e) = AsksTo slots before after e

-- the same of `table`, which has asked for all of them too where its text is too long
abbrev pub TableAsks : List FileSlot → (before after : List Fetched) → Result (Unit {0}) Fault → Type 0
TableAsks slots before after (Err (fault.TooLong file.Table)) = after ≡ before ++ fetches_of slots
TableAsks slots before after result = AsksFiles slots before after result

-- a command that ends so has asked for its files in the order of reading: all, or those up to the one at fault
abbrev pub CommandAsks : Asked → (before after : List Fetched) → Result (Unit {0}) Fault → Type 0
CommandAsks (table source config name) before after result = TableAsks (run_slots source config None) before after result
CommandAsks a before after result = AsksFiles (slots_of a) before after result

-- the same of a call whose words ask for this, or for nothing: then it asks for no file
abbrev pub AsksFor : Option Asked → (before after : List Fetched) → Option Fault → Type 0
AsksFor None before after found = after ≡ before
AsksFor (Some a) before after None = after ≡ before ++ fetches_of (slots_of a)
AsksFor (Some a) before after (Some e) = CommandAsks a before after (Err e)
