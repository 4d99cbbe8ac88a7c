-- Numbers of a table file: decimal digits without a leading zero, as many as there are (choice of this profile).
--   number_in        the number of a field
--   capped           a number, or one past every range
use Rattle.std.specs.Prelude.{ℕ, ◌+◌, ◌*◌, ◌==◌, min, Option, Some, None, option_and_then, List, [], ◌∷◌, if◌then◌else◌}
use Rattle.byte_lines.specs.Bytes.{digit_0, digit_of}

-- the number whose first digits have this value, and whose others are these
abbrev pub number_from : ℕ → List ℕ → Option ℕ
number_from value [] = Some value
number_from value (b ∷ bs) = option_and_then (λ d. number_from (value * 10 + d) bs) (digit_of 10 b)

-- the number of a field: at least one digit, and no 0 before others
abbrev pub number_in : List ℕ → Option ℕ
number_in [] = None
number_in (b ∷ []) = number_from 0 (b ∷ [])
number_in (b ∷ c ∷ digits) = if b == digit_0 then None else number_from 0 (b ∷ c ∷ digits)

-- a number, or one past every range where it is more
abbrev pub capped : ℕ → ℕ
capped n = min n 16777217
