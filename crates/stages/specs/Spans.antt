-- What is said of the spans of a setup.
--   IsProvableAlone  a span is provable, and no other machine may write a pin of it
--   IsRefused        why a span isn't
--   IsFirstRefused   the first span that isn't, its place and name, and why
--   IsProvedAs       a span is proved, and its line's words
--   AreVerdicts      a verdict on each span, in order
--   HasVerdicts      the lines of such verdicts
use Rattle.std.specs.Prelude.{◌≡◌, ℕ, zero, suc, ◌++◌, Bool, List, [], ◌∷◌, Option, Some, None, Result, Ok, Err}
use Rattle.std.specs.List.{AllByRecursion}
use Rattle.pin_matrix.specs.declared.setup.Setup.{Setup}
use Rattle.pin_matrix.specs.declared.span.Span.{Span}
use Rattle.span_bounds.specs.declared.row.Row.{Row}
use Rattle.span_bounds.specs.Tables.{IsProvable}
use Rattle.span_verdict.specs.Sharing.{IsUnshared, IsLeastSharer}
use Rattle.span_verdict.specs.Verdicts.{IsProved, IsUnproved}
use Rattle.span_check.specs.Proved.{HoldsInEveryRun}
use Rattle.span_texts.specs.declared.refusal.Finding.{Finding}
use Rattle.span_texts.specs.declared.refusal.Refusal.{Refusal}
use Rattle.span_texts.specs.declared.refusal.Refusal.TheVariants.{Unproved, Shared}
use Rattle.span_texts.specs.VerdictLines.{verdict_line}
use Rattle.span_texts.specs.Refusals.{finding_of}
use Rattle.fault_lines.specs.declared.fault.Fault.{Fault}
use Rattle.fault_lines.specs.declared.fault.Fault.TheVariants as fault

-- some closed table is good, and no other machine may write a pin of the span
pub record IsProvableAlone (u : Setup) (sp : Span) : Type 0 where
  pub provable : IsProvable u sp
  pub alone : IsUnshared u sp

-- each span is so
abbrev pub AreProvable : Setup → Type 0
AreProvable u = AllByRecursion (IsProvableAlone u) u.spans

-- each span holds in every run of the setup, whatever the stimulus and the length
abbrev pub AllHold : Setup → Type 0
AllHold u = AllByRecursion (HoldsInEveryRun u) u.spans

-- Why a span isn't provable: the first bad context of the least closed table, which is bad for this cause in every
-- closed one; or the least other machine that may write a pin of the span.
abbrev pub IsRefused : Setup → Span → Refusal → Type 0
IsRefused u sp (Unproved k cause) = IsUnproved u sp k cause
IsRefused u sp (Shared m) = IsLeastSharer u sp m

-- the spans before this place, from 0 on, are provable, and the one at it isn't: this is its name, and why
abbrev pub IsFirstRefused : Setup → List Span → (place : ℕ) → (name : List ℕ) → Refusal → Type 0
IsFirstRefused u [] place name refusal = ⊥
IsFirstRefused u (sp ∷ spans) zero name refusal = (sp.name ≡ name) × IsRefused u sp refusal
IsFirstRefused u (sp ∷ spans) (suc place) name refusal = IsProvableAlone u sp × IsFirstRefused u spans place name refusal

-- a span is proved, and its line says this
pub record IsProvedAs (u : Setup) (sp : Span) (told : Finding) : Type 0 where
  pub rows : List Row
  pub opens : Bool
  pub closes : Bool
  pub proved : IsProved u sp rows opens closes
  pub said : told ≡ finding_of sp opens closes

-- a span is proved, and its line says this; or this is why it isn't
abbrev pub IsVerdictOn : Setup → Span → Result Finding Refusal → Type 0
IsVerdictOn u sp (Ok told) = IsProvedAs u sp told
IsVerdictOn u sp (Err refusal) = IsRefused u sp refusal

-- a verdict on each span, in order
abbrev pub AreVerdicts : Setup → List Span → List (Result Finding Refusal) → Type 0
AreVerdicts u [] [] = Unit {0}
AreVerdicts u [] (found ∷ more) = ⊥
AreVerdicts u (sp ∷ spans) [] = ⊥
AreVerdicts u (sp ∷ spans) (found ∷ more) = IsVerdictOn u sp found × AreVerdicts u spans more

-- a line of each span and of what goes with it, in order
unfoldable pub span_lines : {X : Type 0} → (Span → X → List ℕ) → List Span → List X → List ℕ
span_lines line [] xs = []
span_lines line (sp ∷ spans) [] = []
span_lines line (sp ∷ spans) (x ∷ xs) = line sp x ++ span_lines line spans xs

-- the line of the verdict on each span
abbrev pub verdict_text : List Span → List (Result Finding Refusal) → List ℕ
verdict_text spans found = span_lines (λ sp v. verdict_line [] sp.name v) spans found

-- the lines of right verdicts on the spans of a setup are such
abbrev pub HasVerdicts : Setup → (List ℕ → Type 0) → Type 0
HasVerdicts u P = (found : List (Result Finding Refusal)) × AreVerdicts u u.spans found × P (verdict_text u.spans found)

-- ---- what the stages that require spans give

-- the fault of the first span that isn't provable, with its place, its name and why, once this verdict on the span of
-- this place and name comes after those before it
abbrev pub first_refused : Option Fault → (place : ℕ) → (name : List ℕ) → Result Finding Refusal → Option Fault
first_refused None place name (Err refusal) = Some (fault.Unproved place name refusal)
first_refused None place name (Ok told) = None
first_refused (Some earlier) place name found = Some earlier

-- each of these spans is provable, or this is the fault of the first one that isn't
abbrev pub IsFirstOf : Setup → List Span → Option Fault → Type 0
IsFirstOf u spans None = AllByRecursion (IsProvableAlone u) spans
IsFirstOf u spans (Some (fault.Unproved place name refusal)) = IsFirstRefused u spans place name refusal
IsFirstOf u spans (Some e) = ⊥

-- a verdict on each of these spans, and the first one that isn't provable
pub record AreJudged (u : Setup) (spans : List Span) (found : List (Result Finding Refusal)) (refused : Option Fault) : Type 0 where
  pub verdicts : AreVerdicts u spans found
  pub first : IsFirstOf u spans refused

-- a verdict on the span at this place came after the others
pub record IsNextVerdict (u : Setup) (place : ℕ) (sp : Span) (before after : List (Result Finding Refusal)) (earlier refused : Option Fault) : Type 0 where
  pub found : Result Finding Refusal
  pub verdict : IsVerdictOn u sp found
  pub more : after ≡ before ++ found ∷ []
  pub first : refused ≡ first_refused earlier place sp.name found

-- how a command ends that requires the spans: each is provable and holds in every run, or the first one that isn't is named
abbrev pub AreRequired : Setup → Result (Unit {0}) Fault → Type 0
AreRequired u (Ok done) = AreProvable u × AllHold u
AreRequired u (Err (fault.Unproved place name refusal)) = IsFirstRefused u u.spans place name refusal
AreRequired u (Err fault.Memory) = Unit {0}
AreRequired u (Err e) = ⊥
