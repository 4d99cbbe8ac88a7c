-- A table of the checker as a function: the ages of a context's row, where there is a row.
--   IsInRow          there is a row, and ages lie inside its ages
--   IsSoundTable     each next of each row lies within a row, and no row is bad
use Rattle.std.specs.Prelude.{◌≡◌, true, Option, Some, None}
use Rattle.std.specs.List.{AllByRecursion}
use Rattle.pin_matrix.specs.Followed.{followed}
use Rattle.pin_matrix.specs.declared.setup.Setup.{Setup}
use Rattle.pin_matrix.specs.declared.span.Span.{Span}
use Rattle.span_step.specs.declared.ages.Ages.{Ages}
use Rattle.span_step.specs.declared.stepped.Next.{Next}
use Rattle.span_step.specs.Contexts.{Context, IsInside, is_placed}
use Rattle.span_step.specs.Laws.{first_cause}
use Rattle.span_step.specs.Narrowing.{nexts_of}
use Rattle.span_step.specs.Steps.{context_steps}

-- there is a row, and the ages lie inside its ages
abbrev pub IsInRow : Ages → Option Ages → Type 0
IsInRow a None = ⊥
IsInRow a (Some b) = IsInside a b

-- a next has a row, with its ages inside
abbrev pub HasRow : (Context → Option Ages) → Next → Type 0
HasRow rows n = IsInRow n.ages (rows n.context)

-- a row with these ages: each next has a row, and there is no cause for which the row is bad
pub record IsSoundRow (u : Setup) (sp : Span) (rows : Context → Option Ages) (k : Context) (a : Ages) : Type 0 where
  pub closed : AllByRecursion (HasRow rows) (nexts_of (context_steps u sp k a))
  pub good : first_cause (context_steps u sp k a).causes ≡ None

-- each row is so whose context is in range
pub record IsSoundTable (u : Setup) (sp : Span) (rows : Context → Option Ages) : Type 0 where
  pub row : (k : Context) (a : Ages) → is_placed (followed sp) k.address k.x k.y ≡ true → rows k ≡ Some a → IsSoundRow u sp rows k a
