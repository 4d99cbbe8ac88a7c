-- What the checker knows of a machine between two instructions.
--   Context          the address and what is known of X, Y and the span's two pins
--   is_placed        a context's numbers are in range
--   IsInside         ages lie within others
--   is_open          there are ages
use Rattle.std.specs.Prelude.{ℕ, ◌≤◌, Bool, true, false, ◌&&◌, Option, Some, None, nat_le, nat_lt}
use Rattle.pin_matrix.specs.declared.assume.Follow.{Follow}
use Rattle.span_step.specs.declared.ages.Ages.{Ages}
use Rattle.span_step.specs.declared.ages.Ages.TheVariants.{Empty, Between}

-- What the checker knows before an instruction: where it lies in memory, X and Y where they are known and followed, and of the
-- span's from-pin and to-pin whether the watched signal is high: the level, or the direction where it is out. It never is where
-- no signal is watched.
pub record Context : Type 0 where
  pub address : ℕ
  pub x : Option ℕ
  pub y : Option ℕ
  pub from : Bool
  pub to : Bool

-- what is known of X or Y is no more than this
abbrev pub is_small : ℕ → Option ℕ → Bool
is_small most None = true
is_small most (Some n) = nat_le n most

-- the address is one of the 32, and what is known of X and Y is followed so far
abbrev pub is_placed : Follow → ℕ → Option ℕ → Option ℕ → Bool
is_placed f address x y = nat_lt address 32 && (is_small f.x x && is_small f.y y)

-- each age of the first is one of the second: no age lies in any ages, and no other ages lie in none
abbrev pub IsInside : Ages → Ages → Type 0
IsInside Empty b = Unit {0}
IsInside (Between lo hi) Empty = ⊥
IsInside (Between lo hi) (Between low high) = (low ≤ lo) × (hi ≤ high)

-- a from-event is open
abbrev pub is_open : Ages → Bool
is_open Empty = false
is_open (Between lo hi) = true
