-- Up to where a run keeps what a span assumes of X and Y, by its marks.
--   IsEnd           X and Y are no longer as assumed from this clock on
--   IsAssumedUpTo   the first clocks of a run have this end, or none
use Rattle.std.specs.Prelude.{◌≡◌, ℕ, ◌<◌, ◌≤◌, true, Option, Some, None}
use Rattle.span_check.specs.Holding.{IsAssumed}
use Rattle.span_check.specs.Marks.{Mark}

-- The delay is over in this clock after an instruction that finished in it or before and left X or Y otherwise than assumed, and so it
-- was in no clock before.
pub record IsEnd (m : ℕ → Mark) (end : ℕ) : Type 0 where
  pub missed_in : ℕ
  pub misses : (m missed_in).misses ≡ true
  pub after : missed_in ≤ end
  pub rested : (m end).rested ≡ true
  pub assumed : IsAssumed m end

-- where there is an end it is one of the first n clocks; where there is none, X and Y are as assumed in all of them
abbrev pub IsAssumedUpTo : (ℕ → Mark) → (n : ℕ) → (end : Option ℕ) → Type 0
IsAssumedUpTo m n None = IsAssumed m n
IsAssumedUpTo m n (Some end) = (end < n) × IsEnd m end
