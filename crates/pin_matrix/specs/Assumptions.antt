-- What a span assumes of X and Y, and how far they are followed for it (choices of this profile).
--   most_in              the greatest number of a range
--   most_x, most_y       the greatest number of the ranges of X, and of Y
--   are_few_pairs        X and Y up to these have few enough pairs
--   is_assumption        an assumption that a span may have
--   are_assumptions      all that a span may have
--   follow_of            how far X and Y are followed
--   is_in, is_within     a number is in a range, or where it is assumed to be
--   keeps                an instruction leaves X and Y as assumed
use Rattle.std.specs.Prelude.{ℕ, ◌+◌, ◌-◌, ◌*◌, ◌/◌, ◌^◌, ◌==◌, min, max, nat_le, nat_lt, not, ◌&&◌, ◌||◌, Bool, true, Option, Some, None, List, length, fold}
use Rattle.std.specs.List.{list_all}
use Rattle.pin_matrix.specs.declared.assume.Assumption.{Assumption}
use Rattle.pin_matrix.specs.declared.assume.Follow.{Follow}
use Rattle.pin_matrix.specs.declared.assume.Range.{Range}

-- a range has a number
abbrev pub has_number : Option Range → Bool
has_number None = true
has_number (Some r) = nat_le r.lo r.hi

-- the greatest number of a range, 0 where there is none
abbrev pub most_in : Option Range → ℕ
most_in None = 0
most_in (Some r) = r.hi

-- the greatest of a number and those of the ranges of X
unfoldable pub raised_x : ℕ → List Assumption → ℕ
raised_x most items = fold (λ m a. max m (most_in a.x)) most items

-- the greatest number of the ranges of X, 0 where there are none
abbrev pub most_x : List Assumption → ℕ
most_x items = raised_x 0 items

-- the same of Y
unfoldable pub raised_y : ℕ → List Assumption → ℕ
raised_y most items = fold (λ m a. max m (most_in a.y)) most items

-- the greatest number of the ranges of Y
abbrev pub most_y : List Assumption → ℕ
most_y items = raised_y 0 items

-- how many pairs there may be of what is known of X and of Y, each a number or any
abbrev pub most_pairs : ℕ
most_pairs = 2 ^ 17

-- X and Y up to these have no more
abbrev pub are_few_pairs : (x y : ℕ) → Bool
are_few_pairs x y = nat_le ((x + 2) * (y + 2)) most_pairs

-- it is of an address of the memory, and each range has a number
abbrev pub is_assumption : Assumption → Bool
is_assumption a = (nat_lt a.address 32 && has_number a.x) && has_number a.y

-- each is so
abbrev pub is_each_one : List Assumption → Bool
is_each_one items = list_all (λ a. is_assumption a) items

-- at most 16 that are so
abbrev pub are_few : List Assumption → Bool
are_few items = nat_le (length items) 16 && is_each_one items

-- at most 16, whose greatest numbers have few enough pairs
abbrev pub are_assumptions : List Assumption → Bool
are_assumptions items = are_few items && are_few_pairs (most_x items) (most_y items)

-- how far a register is followed that needs no more, where the other one is up to this: up to 31, or as far as the pairs fit
abbrev pub usual_beside : ℕ → ℕ
usual_beside other = min (most_pairs / (other + 2) - 2) 31

-- How far X and Y are followed: each up to the greatest number of its ranges, and further where that is less than it is beside the
-- other one's. Without ranges both are followed up to 31.
unfoldable pub follow_of : List Assumption → Follow
follow_of items = record { x = max (most_x items) (usual_beside (most_y items)); y = max (most_y items) (usual_beside (most_x items)) }

-- a number is in a range
abbrev pub is_in : Range → ℕ → Bool
is_in r n = nat_le r.lo n && nat_le n r.hi

-- a number is where it is assumed to be
abbrev pub is_within : Option Range → ℕ → Bool
is_within None n = true
is_within (Some r) n = is_in r n

-- The instruction at an address leaves these in X and Y, and so as assumed: as each assumption says that is of it.
abbrev pub keeps : List Assumption → (address x y : ℕ) → Bool
keeps items address x y = list_all (λ a. not (a.address == address) || (is_within a.x x && is_within a.y y)) items
