-- Completeness: where the words are taken, the outside is quiet and memory is there, the files alone decide how a call
-- ends.
use Rattle.std.specs.Prelude.{◌≡◌, ◌≢◌, ◌⊎◌, ℕ, Option, Some, None, List}
use Rattle.pio_edge.specs.Edge.{Files, Rose, with_bytes}
use Rattle.fault_lines.specs.declared.fault.File.TheVariants.{Table}
use Rattle.fault_lines.specs.declared.fault.Fault.{Fault}
use Rattle.fault_lines.specs.declared.fault.Fault.TheVariants as fault
use Rattle.clap.specs.Walk.{Text}
use Rattle.command_line.specs.Words.{WordsAreTaken}
use Rattle.span_texts.specs.declared.refusal.Refusal.{Refusal}
use Rattle.span_texts.specs.declared.refusal.Refusal.TheVariants.{Shared}
use Rattle.pin_matrix.specs.declared.setup.Setup.{Setup}
use Rattle.pin_matrix.specs.declared.span.Span.{Span}
use Rattle.span_bounds.specs.declared.row.Row.{Row}
use Rattle.span_bounds.specs.Tables.{IsClosed, IsGood}
use Rattle.span_verdict.specs.Flaws.{first_flaw}
use Rattle.span_verdict.specs.Sharing.{IsUnshared, IsLeastSharer}
use Rattle.span_verdict.specs.declared.table_flaw.Flaw.{Flaw}
use Rattle.stages.specs.Judged.{Judged, right, wrong}
use Rattle.stages.specs.Stages.{HasSuch}
use Rattle.stages.specs.Spans.{IsProvableAlone, AreProvable, IsRefused, IsFirstRefused}
use Rattle.commands.specs.Needs.{IsNamedAt, IsProvedBy}
use Rattle.commands.specs.Tasks.{Task, listing, trace, twin_trace, verdicts, tabled, rechecked, judge, HasText, HasLongText}
use Rattle.commands.specs.Outside.{Call}
use Rattle.commands.specs.Wanted.{wanted}

-- `tool` takes the words, the files are known, memory sufficed, and no count rose
pub record Quiet (words : List Text) (c : Call) (f : Files) (found : Option Fault) : Type 0 where
  pub words_taken : WordsAreTaken words
  pub told : c.files ≡ Some f
  pub memory : found ≢ Some fault.Memory
  pub shelf : Rose c.shelf_before.count c.shelf_after.count → ⊥
  pub out : Rose c.out_before.faults c.out_after.faults → ⊥

-- no fault and the whole text
abbrev pub IsDone : Call → Task → Option Fault → Type 0
IsDone c task found = (found ≡ None) × HasText task (λ text. c.out_after.taken ≡ with_bytes c.out_before.taken text)

-- the text is longer than a table file may be, which is the fault
abbrev pub IsTooLong : Task → Option Fault → Type 0
IsTooLong task found = (found ≡ Some (fault.TooLong Table)) × HasLongText task

-- the fault of the first span that isn't provable
pub record IsUndone (u : Setup) (found : Option Fault) : Type 0 where
  pub place : ℕ
  pub name : List ℕ
  pub refusal : Refusal
  pub fault : found ≡ Some (fault.Unproved place name refusal)
  pub first : IsFirstRefused u u.spans place name refusal

-- where each span of the setup is provable, all is done; where one isn't, the first such one is named
pub record EndsBySpans (c : Call) (task : Task) (found : Option Fault) (u : Setup) : Type 0 where
  pub provable : AreProvable u → IsDone c task found
  pub unprovable : (AreProvable u → ⊥) → IsUndone u found

-- the fault of the first span of the second block that isn't provable
pub record IsSecondUndone (t : Setup) (found : Option Fault) : Type 0 where
  pub place : ℕ
  pub name : List ℕ
  pub refusal : Refusal
  pub fault : found ≡ Some (fault.SecondUnproved place name refusal)
  pub first : IsFirstRefused t t.spans place name refusal

-- where each span of both blocks is provable, all is done; where one isn't, the first such one is named, the first
-- block's before the second's
pub record EndsByBoth (c : Call) (task : Task) (found : Option Fault) (s t : Setup) : Type 0 where
  pub provable : AreProvable s → AreProvable t → IsDone c task found
  pub first_unprovable : (AreProvable s → ⊥) → IsUndone s found
  pub second_unprovable : AreProvable s → (AreProvable t → ⊥) → IsSecondUndone t found

-- the fault has the span's place and name, and why it isn't provable
pub record IsRefusalTold (found : Option Fault) (u : Setup) (sp : Span) : Type 0 where
  pub place : ℕ
  pub named : IsNamedAt u sp place sp.name
  pub refusal : Refusal
  pub why : IsRefused u sp refusal
  pub fault : found ≡ Some (fault.Unproved place sp.name refusal)

-- where the span is provable, all is done, or its table is too long; where it isn't, the fault says why
pub record EndsBySpan (c : Call) (task : Task) (found : Option Fault) (u : Setup) (sp : Span) : Type 0 where
  pub provable : IsProvableAlone u sp → IsDone c task found ⊎ IsTooLong task found
  pub unprovable : (IsProvableAlone u sp → ⊥) → IsRefusalTold found u sp

-- the fault has the span's place and name, and the first flaw of a table
pub record IsFlawTold (found : Option Fault) (u : Setup) (sp : Span) (rows : List Row) : Type 0 where
  pub place : ℕ
  pub named : IsNamedAt u sp place sp.name
  pub flaw : Flaw
  pub first : first_flaw u sp rows ≡ Some flaw
  pub fault : found ≡ Some (fault.Flaw place sp.name flaw)

-- the fault has the span's place and name, and this machine, which may write a pin of it
pub record IsSharerTold (found : Option Fault) (u : Setup) (sp : Span) (m : ℕ) : Type 0 where
  pub place : ℕ
  pub named : IsNamedAt u sp place sp.name
  pub fault : found ≡ Some (fault.Unproved place sp.name (Shared m))

-- Where another machine may write a pin of the span, the least one is named. Where none may, all is done if the table
-- is closed and good, and else its first flaw is named.
pub record EndsByTable (c : Call) (task : Task) (found : Option Fault) (u : Setup) (sp : Span) (rows : List Row) : Type 0 where
  pub shared : (m : ℕ) → IsLeastSharer u sp m → IsSharerTold found u sp m
  pub proved : IsProvedBy u sp rows → IsDone c task found
  pub unproved : IsUnshared u sp → (IsClosed u sp rows → IsGood u sp rows → ⊥) → IsFlawTold found u sp rows

-- what the task needs of spans decides, and where it needs nothing all is done
abbrev pub EndsByTask : Call → Task → Option Fault → Type 0
EndsByTask c (listing text) found = IsDone c (listing text) found
EndsByTask c (trace u text) found = EndsBySpans c (trace u text) found u
EndsByTask c (twin_trace s t text) found = EndsByBoth c (twin_trace s t text) found s t
EndsByTask c (verdicts u) found = EndsBySpans c (verdicts u) found u
EndsByTask c (tabled u sp) found = EndsBySpan c (tabled u sp) found u sp
EndsByTask c (rechecked u sp rows) found = EndsByTable c (rechecked u sp rows) found u sp rows

-- the task decides where the files come to one, else exactly their fault ends the call
abbrev pub EndsByFiles : Call → Judged Task → Option Fault → Type 0
EndsByFiles c (right task) found = EndsByTask c task found
EndsByFiles c (wrong e) found = found ≡ Some e

-- the words of a quiet call ask for something, and the files decide its end
abbrev pub FilesDecide : List Text → Call → Option Fault → Type 0
FilesDecide words c found =
    (f : Files) → Quiet words c f found → HasSuch (wanted words) (λ a. EndsByFiles c (judge f a) found)
