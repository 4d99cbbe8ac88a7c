-- Words of the sweeps, which work with the numbers of contexts.
--   padded           a grid of which some entries are written
--   at               what a grid says of a number
--   nexts_at         the nexts of the context with a number
--   AllLie           each next lies within an entry
--   IsClosedAt       a table, as a function of the number, is closed
--   Among            a number waits
use Rattle.std.specs.Prelude.{◌≡◌, ℕ, ◌-◌, ◌<◌, ◌≤◌, ◌⊎◌, List, [], ◌∷◌, ◌++◌, length, map, replicate, slice_index_or}
use Rattle.pin_matrix.specs.Followed.{followed}
use Rattle.pin_matrix.specs.declared.assume.Follow.{Follow}
use Rattle.pin_matrix.specs.declared.setup.Setup.{Setup}
use Rattle.pin_matrix.specs.declared.span.Span.{Span}
use Rattle.span_step.specs.declared.ages.Ages.{Ages}
use Rattle.span_step.specs.declared.ages.Ages.TheVariants.{Empty}
use Rattle.span_step.specs.declared.stepped.Next.{Next}
use Rattle.span_step.specs.Narrowing.{nexts_of}
use Rattle.span_step.specs.Steps.{context_steps}
use Rattle.span_bounds.specs.declared.entry.Entry.{Entry}
use Rattle.span_bounds.specs.declared.entry.Entry.TheVariants.{Absent, Present}
use Rattle.span_bounds.specs.declared.marks.ContextMark.{ContextMark}
use Rattle.span_bounds.specs.Marks.{marked}
use Rattle.span_bounds.specs.Numbers.{number_of, context_at, contexts_of}
use Rattle.span_bounds.specs.Tables.{LiesAt, start_context}

-- a grid of this size of which these entries are written: no rows come after them
abbrev pub padded : ℕ → List Entry → List Entry
padded size xs = xs ++ replicate (size - length xs) Absent

-- counts of this size of which these are written: the others are 0
abbrev pub counted_out : ℕ → List ℕ → List ℕ
counted_out size xs = xs ++ replicate (size - length xs) 0

-- marks of this size of which these are written
abbrev pub marked_out : ℕ → List ContextMark → List Entry
marked_out size xs = padded size (map marked xs)

-- what a grid says of a number
abbrev pub at : List Entry → ℕ → Entry
at g i = slice_index_or g i Absent

-- there are no rows from this number on
abbrev pub EndsAt : List Entry → ℕ → Type 0
EndsAt g end = (i : ℕ) → end ≤ i → at g i ≡ Absent

-- the nexts of the context with this number
unfoldable pub nexts_at : Setup → Span → ℕ → Ages → List Next
nexts_at u sp i a = nexts_of (context_steps u sp (context_at (followed sp) i) a)

-- the number of a next
abbrev pub spot : Follow → Next → ℕ
spot d n = number_of d n.context

-- a fact of each next
abbrev pub EachNext : (Next → Type 0) → List Next → Type 0
EachNext P [] = Unit {0}
EachNext P (n ∷ ns) = P n × EachNext P ns

-- each next lies within an entry
abbrev pub AllLie : Follow → (ℕ → Entry) → List Next → Type 0
AllLie d f ns = EachNext (λ n. LiesAt n.ages (f (spot d n))) ns

-- a table, as a function of the number, is closed
pub record IsClosedAt (u : Setup) (sp : Span) (f : ℕ → Entry) : Type 0 where
  pub starts : LiesAt Empty (f (number_of (followed sp) (start_context u sp)))
  pub steps : (i : ℕ) (a : Ages) → i < contexts_of sp → f i ≡ Present a → AllLie (followed sp) f (nexts_at u sp i a)

-- a number is in the list
abbrev pub Among : ℕ → List ℕ → Type 0
Among i [] = ⊥
Among i (j ∷ js) = (i ≡ j) ⊎ Among i js
