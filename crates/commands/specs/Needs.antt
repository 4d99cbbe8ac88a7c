-- What a task needs of the spans of a setup, besides its text.
--   IsMet       each span is provable, of one setup or of two; one span is; or a table proves one
--   RequiredBefore what of it is required before anything is written
--   AllRunsHold what it says of every run
--   IsRefusedBy the first span that isn't provable, by its place in the setup, and why
--   IsSecondRefusedBy   the same of a second block
--   IsFlawed    what is wrong with the table of a span first
use Rattle.std.specs.Prelude.{◌≡◌, ℕ, Some, List}
use Rattle.pin_matrix.specs.declared.setup.Setup.{Setup}
use Rattle.pin_matrix.specs.declared.span.Span.{Span}
use Rattle.span_bounds.specs.declared.row.Row.{Row}
use Rattle.span_bounds.specs.Tables.{IsClosed, IsGood}
use Rattle.span_verdict.specs.Flaws.{first_flaw}
use Rattle.span_verdict.specs.Sharing.{IsUnshared, IsLeastSharer}
use Rattle.span_verdict.specs.declared.table_flaw.Flaw.{Flaw}
use Rattle.span_check.specs.Proved.{HoldsInEveryRun}
use Rattle.span_texts.specs.declared.refusal.Refusal.{Refusal}
use Rattle.span_texts.specs.declared.refusal.Refusal.TheVariants.{Unproved, Shared}
use Rattle.stages.specs.Named.{named_from}
use Rattle.stages.specs.Pairs.{AllHoldInPairs}
use Rattle.stages.specs.Spans.{IsProvableAlone, AreProvable, AllHold, IsRefused, IsFirstRefused}
use Rattle.commands.specs.Tasks.{Task, listing, trace, twin_trace, verdicts, tabled, rechecked}

-- a table proves a span: it is closed and good, and no other machine may write a pin of the span
pub record IsProvedBy (u : Setup) (sp : Span) (rows : List Row) : Type 0 where
  pub alone : IsUnshared u sp
  pub closed : IsClosed u sp rows
  pub good : IsGood u sp rows

-- this is wrong first with a table, so it isn't both closed and good; no other machine may write a pin of the span
pub record HasFlaw (u : Setup) (sp : Span) (rows : List Row) (flaw : Flaw) : Type 0 where
  pub alone : IsUnshared u sp
  pub first : first_flaw u sp rows ≡ Some flaw
  pub unproved : IsClosed u sp rows → IsGood u sp rows → ⊥

-- what a task needs of spans: nothing; that each span of a setup, or of two, is provable; that one is; or that its rows
-- prove it
abbrev pub IsMet : Task → Type 0
IsMet (listing text) = Unit {0}
IsMet (trace u text) = AreProvable u
IsMet (twin_trace s t text) = AreProvable s × AreProvable t
IsMet (verdicts u) = AreProvable u
IsMet (tabled u sp) = IsProvableAlone u sp
IsMet (rechecked u sp rows) = IsProvedBy u sp rows

-- what is asked before anything is written is met; `check` asks its spans, and writes before it ends with the first
-- refusal
abbrev pub RequiredBefore : Task → Type 0
RequiredBefore (verdicts u) = Unit {0}
RequiredBefore task = IsMet task

-- the spans hold in every run of the setup, or of two blocks on one set of pins, whatever the stimulus and the length
abbrev pub AllRunsHold : Task → Type 0
AllRunsHold (listing text) = Unit {0}
AllRunsHold (trace u text) = AllHold u
AllRunsHold (twin_trace s t text) = AllHoldInPairs s t
AllRunsHold (verdicts u) = AllHold u
AllRunsHold (tabled u sp) = HoldsInEveryRun u sp
AllRunsHold (rechecked u sp rows) = HoldsInEveryRun u sp

-- the refusal is the least other machine that may write a pin of the span
abbrev pub IsSharedBy : Setup → Span → Refusal → Type 0
IsSharedBy u sp (Unproved k cause) = ⊥
IsSharedBy u sp (Shared m) = IsLeastSharer u sp m

-- the span has this name, and is the first of the setup with it, at this place, from 0 on
pub record IsNamedAt (u : Setup) (sp : Span) (place : ℕ) (name : List ℕ) : Type 0 where
  pub named : sp.name ≡ name
  pub first : named_from 0 name u.spans ≡ Some (place, sp)

-- the first span that isn't provable is at this place and has this name, and this is why; a table proves no span of
-- which another machine may write a pin
abbrev pub IsRefusedBy : Task → (place : ℕ) → (name : List ℕ) → Refusal → Type 0
IsRefusedBy (listing text) place name refusal = ⊥
IsRefusedBy (trace u text) place name refusal = IsFirstRefused u u.spans place name refusal
IsRefusedBy (twin_trace s t text) place name refusal = IsFirstRefused s s.spans place name refusal
IsRefusedBy (verdicts u) place name refusal = IsFirstRefused u u.spans place name refusal
IsRefusedBy (tabled u sp) place name refusal = IsNamedAt u sp place name × IsRefused u sp refusal
IsRefusedBy (rechecked u sp rows) place name refusal = IsNamedAt u sp place name × IsSharedBy u sp refusal

-- the spans of the first block are provable, the first span of the second that isn't is at this place and has this
-- name, and this is why
abbrev pub IsSecondRefusedBy : Task → (place : ℕ) → (name : List ℕ) → Refusal → Type 0
IsSecondRefusedBy (twin_trace s t text) place name refusal = AreProvable s × IsFirstRefused t t.spans place name refusal
IsSecondRefusedBy task place name refusal = ⊥

-- this is wrong first with the table of the span at this place with this name, of which no other machine may write a
-- pin
abbrev pub IsFlawed : Task → (place : ℕ) → (name : List ℕ) → Flaw → Type 0
IsFlawed (rechecked u sp rows) place name flaw = IsNamedAt u sp place name × HasFlaw u sp rows flaw
IsFlawed task place name flaw = ⊥
