-- What `derive` answers.
--   HasCause         a row is bad for a cause
--   IsFirstBad       a context is the first bad one, for this cause
--   IsAnswer         what an answer says
--   filled           the entries by which the rows are judged
--   cause_at         the first cause of a number's row
use Rattle.std.specs.Prelude.{◌≡◌, ℕ, ◌<◌, ◌-◌, ◌^◌, true, if◌then◌else◌, Option, Some, None, List}
use Rattle.pin_matrix.specs.Followed.{followed}
use Rattle.pin_matrix.specs.declared.setup.Setup.{Setup}
use Rattle.pin_matrix.specs.declared.span.Span.{Span}
use Rattle.span_step.specs.declared.ages.Ages.{Ages}
use Rattle.span_step.specs.declared.ages.Ages.TheVariants.{Between}
use Rattle.span_step.specs.declared.cause.Cause.{Cause}
use Rattle.span_step.specs.declared.cause.Cause.TheVariants.{U1, U2, U3, U4, U6}
use Rattle.span_step.specs.declared.cause.Causes.{Causes}
use Rattle.span_step.specs.Contexts.{Context}
use Rattle.span_step.specs.Laws.{first_cause}
use Rattle.span_step.specs.Steps.{context_steps}
use Rattle.span_bounds.specs.declared.derived.Derived.{Derived}
use Rattle.span_bounds.specs.declared.derived.Derived.TheVariants.{Closed, Bad}
use Rattle.span_bounds.specs.declared.entry.Entry.{Entry}
use Rattle.span_bounds.specs.declared.entry.Entry.TheVariants.{Absent, Present}
use Rattle.span_bounds.specs.declared.row.Row.{Row}
use Rattle.span_bounds.specs.Numbers.{number_of, context_at, contexts_of}
use Rattle.span_bounds.specs.Tables.{entry_at, IsTable, IsClosed, IsGood, IsLeast, first_bad}
use Rattle.span_bounds.specs.Edges.{at}
use Rattle.span_bounds.specs.Sums.{open_at}

-- a row is bad for this cause
abbrev pub HasCause : Cause → Causes → Type 0
HasCause U1 c = c.u1 ≡ true
HasCause U2 c = c.u2 ≡ true
HasCause U3 c = c.u3 ≡ true
HasCause U4 c = c.u4 ≡ true
HasCause U6 c = c.u6 ≡ true

-- the table is the least closed one, and it is good
pub record IsGoodLeast (u : Setup) (sp : Span) (rows : List Row) : Type 0 where
  pub least : IsLeast u sp rows
  pub good : IsGood u sp rows

-- each closed table has a row of this context, which is bad there for this cause; so no closed table is good
pub record IsBadEverywhere (u : Setup) (sp : Span) (k : Context) (cause : Cause) : Type 0 where
  pub bad : (rows : List Row) → IsTable (followed sp) rows → IsClosed u sp rows → (a : Ages) × ((entry_at (followed sp) rows (number_of (followed sp) k) ≡ Present a) × HasCause cause (context_steps u sp k a).causes)

-- the least closed table has this first bad row in context order, with this first cause; in every closed table it is bad for this
-- cause
pub record IsFirstBad (u : Setup) (sp : Span) (k : Context) (cause : Cause) : Type 0 where
  pub rows : List Row
  pub least : IsLeast u sp rows
  pub first : first_bad u sp rows ≡ Some (k, cause)
  pub everywhere : IsBadEverywhere u sp k cause

-- what an answer says
abbrev pub IsAnswer : Setup → Span → Derived → Type 0
IsAnswer u sp (Closed table) = (table.follow ≡ followed sp) × IsGoodLeast u sp table.rows
IsAnswer u sp (Bad k cause) = IsFirstBad u sp k cause

-- a row that was never taken is judged by ages above any bound
abbrev pub filled : (left entry : Entry) → Entry
filled left entry = if open_at left then Present (Between 0 (2 ^ 32 - 1)) else entry

-- the first cause of a row, if there is one
abbrev pub cause_by : Setup → Span → ℕ → Entry → Option Cause
cause_by u sp i Absent = None
cause_by u sp i (Present a) = first_cause (context_steps u sp (context_at (followed sp) i) a).causes

-- the first cause of a number's row
abbrev pub cause_at : Setup → Span → List Entry → List Entry → ℕ → Option Cause
cause_at u sp l x i = cause_by u sp i (filled (at l i) (at x i))

-- no row below this number is bad
pub record AreGoodBelow (u : Setup) (sp : Span) (l x : List Entry) (n : ℕ) : Type 0 where
  pub good : (i : ℕ) → i < n → cause_at u sp l x i ≡ None

-- the number is that of a bad row, and this its first cause
pub record IsBadAt (u : Setup) (sp : Span) (l x : List Entry) (f : ℕ × Cause) : Type 0 where
  pub below : f.0 < contexts_of sp
  pub cause : cause_at u sp l x f.0 ≡ Some f.1
  pub first : AreGoodBelow u sp l x f.0
