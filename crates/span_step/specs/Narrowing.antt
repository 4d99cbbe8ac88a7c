-- What can come next after a row, by what the span assumes of X and Y there, and by how far they are followed.
--   meet             what two ranges have in common
--   assumed_at       the ranges in which X and Y are assumed to be after the instruction at an address
--   followed_to      what is known, as far as it is followed
--   held             what is known of X or Y at the end of a course
--   kept             what may be known of X or Y after it
--   narrowed         what can come next after the end of a course
--   nexts_of         what can come next after a row
--   IsTurn           which turns the end at a place has
--   is_unmet         nothing can, since X or Y is known to be outside its range
use Rattle.std.specs.Prelude.{ℕ, ◌+◌, ◌-◌, ◌≤◌, ◌==◌, min, max, nat_le, Bool, not, ◌&&◌, if◌then◌else◌, Option, Some, None, is_some, List, [], ◌∷◌, length, map, fold, flat_map, take, drop}
use Rattle.std.specs.List.{list_any, range_with_len}
use Rattle.pin_matrix.specs.Assumptions.{is_in}
use Rattle.pin_matrix.specs.Followed.{followed}
use Rattle.pin_matrix.specs.declared.assume.Assumption.{Assumption}
use Rattle.pin_matrix.specs.declared.assume.Range.{Range}
use Rattle.pin_matrix.specs.declared.span.Span.{Span}
use Rattle.span_step.specs.declared.narrowing.Narrowing.{Narrowing}
use Rattle.span_step.specs.declared.narrowing.Values.{Values}
use Rattle.span_step.specs.declared.narrowing.Values.TheVariants.{One, Each}
use Rattle.span_step.specs.declared.stepped.Next.{Next}
use Rattle.span_step.specs.declared.stepped.Stepped.{Stepped}
use Rattle.span_step.specs.Outcomes.{ContextOutcome}

-- what two ranges have in common, which may be nothing; where there is no range, the other one
abbrev pub meet : Option Range → Option Range → Option Range
meet None other = other
meet (Some r) None = Some r
meet (Some r) (Some s) = Some (record { lo = max r.lo s.lo; hi = min r.hi s.hi })

-- the ranges with those of one more assumption
abbrev pub with_assumption : ℕ → Option Range × Option Range → Assumption → Option Range × Option Range
with_assumption address found a = if a.address == address then (meet found.0 a.x, meet found.1 a.y) else found

-- ranges with those of some assumptions
unfoldable pub with_assumptions : ℕ → Option Range × Option Range → List Assumption → Option Range × Option Range
with_assumptions address found items = fold (with_assumption address) found items

-- the ranges in which X and Y are assumed to be after the instruction at an address: those of each assumption that is of it
abbrev pub assumed_at : List Assumption → ℕ → Option Range × Option Range
assumed_at items address = with_assumptions address (None, None) items

-- the same, with how far X and Y are followed
unfoldable pub narrowing_after : Span → ℕ → Narrowing
narrowing_after sp address =
    let ranges = assumed_at sp.assume address in record { follow = followed sp; x = ranges.0; y = ranges.1 }

-- nothing is assumed
abbrev pub is_wide : Narrowing → Bool
is_wide w = not (is_some w.x) && not (is_some w.y)

-- what is known, as far as it is followed: more is as any
abbrev pub followed_to : ℕ → Option ℕ → Option ℕ
followed_to limit None = None
followed_to limit (Some n) = if nat_le n limit then Some n else None

-- how many numbers a range has
abbrev pub numbers_in : Range → ℕ
numbers_in r = r.hi + 1 - r.lo

-- What is known of X or Y at the end of a course whose instruction leaves this: all of it where a range is assumed, and else as far as
-- it is followed.
abbrev pub held : (limit : ℕ) → Option Range → Option ℕ → Option ℕ
held limit None known = followed_to limit known
held limit (Some r) known = known

-- what an instruction does, with what is known of X and Y at the end of its courses
abbrev pub with_held : Narrowing → ContextOutcome → ContextOutcome
with_held w o = record o { x = held w.follow.x w.x o.x; y = held w.follow.y w.y o.y }

-- What may be known of X or Y after the end of a course. Where a range is assumed: each number of it, if nothing is known; what is
-- known, if it is in the range; else nothing can be. Where none is: what is known.
abbrev pub kept : Option Range → Option ℕ → List (Option ℕ)
kept None known = known ∷ []
kept (Some r) None = map Some (range_with_len r.lo (numbers_in r))
kept (Some r) (Some n) = if is_in r n then Some n ∷ [] else []

-- what the code's values are
abbrev pub values_of : Values → List (Option ℕ)
values_of (One known) = known ∷ []
values_of (Each r) = map Some (range_with_len r.lo (numbers_in r))

-- the end of a course where this is known of X and Y
abbrev pub knowing : Next → Option ℕ → Option ℕ → Next
knowing n x y = record n { context = record n.context { x = x; y = y } }

-- the same, for all that may be known of Y
abbrev pub knowing_x : Narrowing → Next → Option ℕ → List Next
knowing_x w n x = map (λ y. knowing n x y) (kept w.y n.context.y)

-- what can come next after the end of a course: all that may be known of X and Y there
unfoldable pub narrowed : Narrowing → Next → List Next
narrowed w n = flat_map (λ x. knowing_x w n x) (kept w.x n.context.x)

-- the same of some ends
abbrev pub all_narrowed : Narrowing → List Next → List Next
all_narrowed w ends = flat_map (λ n. narrowed w n) ends

-- what can come next after a row
unfoldable pub nexts_of : Stepped → List Next
nexts_of s = all_narrowed s.narrowing s.ends

-- what is left of it from a place among the ends on, and of the end there from a turn on
abbrev pub nexts_left : Narrowing → List Next → (place turn : ℕ) → List Next
nexts_left w ends place turn = drop turn (all_narrowed w (drop place ends))

-- a turn is one of the end at a place, or the first where nothing comes after this end or none is there
abbrev pub IsTurn : Narrowing → List Next → (place turn : ℕ) → Type 0
IsTurn w ends place turn = turn ≤ length (all_narrowed w (take 1 (drop place ends))) - 1

-- nothing is left of what is known at the end of a course
abbrev pub is_unmet : Narrowing → Next → Bool
is_unmet w n = length (narrowed w n) == 0

-- that is so of some end of a row
abbrev pub is_unmet_at_an_end : Stepped → Bool
is_unmet_at_an_end s = list_any (λ n. is_unmet s.narrowing n) s.ends
