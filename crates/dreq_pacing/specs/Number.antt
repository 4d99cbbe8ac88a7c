-- Numbers of a stimulus: decimal digits, or `0x` and hexadecimal digits of either case, as many as there are
-- (choice of this profile).
use Rattle.std.specs.Prelude.{ℕ, ◌+◌, ◌*◌, ◌==◌, ◌&&◌, nat_le, min, Bool, Option, Some, None, is_some, option_and_then, List, [], ◌∷◌, if◌then◌else◌}
use Rattle.byte_lines.specs.Bytes.{digit_0, digit_of}

-- `x`, which comes after `0` in front of hexadecimal digits
abbrev pub small_x : ℕ
small_x = 120

-- the number whose first digits have this value, and whose others are these
abbrev pub number_from : ℕ → ℕ → List ℕ → Option ℕ
number_from base value [] = Some value
number_from base value (b ∷ bs) = option_and_then (λ d. number_from base (value * base + d) bs) (digit_of base b)

-- the number of some digits, at least one
abbrev pub number_in : ℕ → List ℕ → Option ℕ
number_in base [] = None
number_in base (b ∷ bs) = number_from base 0 (b ∷ bs)

-- the number of a field
abbrev pub number_of : List ℕ → Option ℕ
number_of [] = None
number_of (b ∷ []) = number_in 10 (b ∷ [])
number_of (b ∷ c ∷ digits) = if b == digit_0 && c == small_x then number_in 16 digits else number_in 10 (b ∷ c ∷ digits)

-- whether a field is a number
abbrev pub is_number : List ℕ → Bool
is_number field = is_some (number_of field)

-- a number from `low` to `high`
abbrev pub within : ℕ → ℕ → Option ℕ → Option ℕ
within low high None = None
within low high (Some n) = if nat_le low n && nat_le n high then Some n else None

-- the number of a field, where it is one from `low` to `high`
abbrev pub in_range : ℕ → ℕ → List ℕ → Option ℕ
in_range low high field = within low high (number_of field)

-- a number, or one past every range where it is more
abbrev pub capped : ℕ → ℕ
capped n = min n 1000000000001
