-- How many passages of open rows lead to a number.
--   total            a sum over the numbers below one
--   passages         how many of some nexts pass to a number
--   waits            how many passages of a row lead to a number, if the row is open
--   join_into        an entry with more ages
use Rattle.std.specs.Prelude.{ℕ, zero, suc, ◌+◌, ◌==◌, min, max, Bool, true, false, ◌&&◌, if◌then◌else◌, List, [], ◌∷◌}
use Rattle.pin_matrix.specs.Followed.{followed}
use Rattle.pin_matrix.specs.declared.assume.Follow.{Follow}
use Rattle.pin_matrix.specs.declared.setup.Setup.{Setup}
use Rattle.pin_matrix.specs.declared.span.Span.{Span}
use Rattle.span_step.specs.declared.ages.Ages.{Ages}
use Rattle.span_step.specs.declared.ages.Ages.TheVariants.{Empty, Between}
use Rattle.span_step.specs.declared.stepped.Next.{Next}
use Rattle.span_step.specs.Contexts.{is_open}
use Rattle.span_bounds.specs.declared.entry.Entry.{Entry}
use Rattle.span_bounds.specs.declared.entry.Entry.TheVariants.{Absent, Present}
use Rattle.span_bounds.specs.Edges.{nexts_at, spot}

-- the sum of a function over the numbers below n
unfoldable pub total : ℕ → (ℕ → ℕ) → ℕ
total zero f = 0
total (suc n) f = total n f + f n

-- 1 where it is so
abbrev pub one_if : Bool → ℕ
one_if true = 1
one_if false = 0

-- how many of these nexts are reached at this number without a to-edge
unfoldable pub passages : Follow → ℕ → List Next → ℕ
passages d v [] = 0
passages d v (n ∷ ns) = one_if (n.passes && spot d n == v) + passages d v ns

-- ages are open at an entry
abbrev pub open_at : Entry → Bool
open_at Absent = false
open_at (Present a) = is_open a

-- how many passages of a row with this entry lead to v, if it is open
abbrev pub waits_by : Setup → Span → ℕ → ℕ → Entry → ℕ
waits_by u sp v w Absent = 0
waits_by u sp v w (Present a) = if is_open a then passages (followed sp) v (nexts_at u sp w a) else 0

-- the same in a table
abbrev pub waits : Setup → Span → (ℕ → Entry) → ℕ → ℕ → ℕ
waits u sp f v w = waits_by u sp v w (f w)

-- the ages of either and between
abbrev pub join : Ages → Ages → Ages
join Empty b = b
join (Between lo hi) Empty = Between lo hi
join (Between lo hi) (Between low high) = Between (min lo low) (max hi high)

-- an entry with more ages
abbrev pub join_into : Ages → Entry → Ages
join_into a Absent = a
join_into a (Present b) = join a b
