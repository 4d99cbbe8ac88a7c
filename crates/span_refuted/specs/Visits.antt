-- The visits of a machine's instructions, one after another, with the ages of the span's open from-edges.
--   visit            the context and the ages at each instruction
--   cause_at         why a visit is bad
--   IsFirstBadVisit  the first bad visit
--   HasBadVisit      some visit is the first bad one
use Rattle.std.specs.Prelude.{◌≡◌, ℕ, zero, suc, ◌<◌, ◌⊎◌, Option, Some, None, List, [], ◌∷◌}
use Rattle.pin_matrix.specs.declared.setup.Setup.{Setup}
use Rattle.pin_matrix.specs.declared.span.Span.{Span}
use Rattle.span_step.specs.declared.ages.Ages.{Ages}
use Rattle.span_step.specs.declared.ages.Ages.TheVariants.{Empty}
use Rattle.span_step.specs.declared.cause.Cause.{Cause}
use Rattle.span_step.specs.declared.cause.Cause.TheVariants.{U1, U2}
use Rattle.span_step.specs.declared.stepped.Next.{Next}
use Rattle.span_step.specs.declared.stepped.Stepped.{Stepped}
use Rattle.span_step.specs.Contexts.{Context}
use Rattle.span_step.specs.Laws.{first_cause}
use Rattle.span_step.specs.Narrowing.{nexts_of}
use Rattle.span_step.specs.Steps.{context_steps}
use Rattle.span_bounds.specs.Tables.{start_context}

-- the context and the ages of the first next; the same again where there is none
abbrev pub first_next : List Next → Context × Ages → Context × Ages
first_next [] v = v
first_next (n ∷ ns) v = (n.context, n.ages)

-- The context at each instruction that the machine comes to, and the ages of the open from-edges then: at first the start's
-- context with no ages, and after each step its next. Where the machine has no choice a step has one next.
unfoldable pub visit : Setup → Span → ℕ → Context × Ages
visit u sp zero = (start_context u sp, Empty)
visit u sp (suc i) =
    let v = visit u sp i in first_next (nexts_of (context_steps u sp v.0 v.1)) v

-- the step from a visit
abbrev pub step_from : Setup → Span → ℕ → Stepped
step_from u sp i = context_steps u sp (visit u sp i).0 (visit u sp i).1

-- the first cause for which a visit is bad, if there is one
abbrev pub cause_at : Setup → Span → ℕ → Option Cause
cause_at u sp i = first_cause (step_from u sp i).causes

-- The first bad visit: an age is above the span's most, or a to-edge comes while an age is below its least. No visit before it
-- is bad.
pub record IsFirstBadVisit (u : Setup) (sp : Span) (i : ℕ) : Type 0 where
  pub cause : (cause_at u sp i ≡ Some U1) ⊎ (cause_at u sp i ≡ Some U2)
  pub earlier : (j : ℕ) → j < i → cause_at u sp j ≡ None

-- some visit is the first bad one
pub record HasBadVisit (u : Setup) (sp : Span) : Type 0 where
  pub number : ℕ
  pub first : IsFirstBadVisit u sp number
