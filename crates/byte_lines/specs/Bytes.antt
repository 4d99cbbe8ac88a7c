-- What bytes are in files that are read line by line: blanks, and digits of either case.
use Rattle.std.specs.Prelude.{ℕ, ◌+◌, ◌-◌, ◌==◌, ◌||◌, ◌&&◌, nat_le, nat_lt, Bool, Option, Some, None, if◌then◌else◌}

-- `0`
abbrev pub digit_0 : ℕ
digit_0 = 48

-- `9`
abbrev pub digit_9 : ℕ
digit_9 = 57

-- `a`
abbrev pub small_a : ℕ
small_a = 97

-- `f`
abbrev pub small_f : ℕ
small_f = 102

-- `A`
abbrev pub capital_a : ℕ
capital_a = 65

-- `F`
abbrev pub capital_f : ℕ
capital_f = 70

-- a blank
abbrev pub space : ℕ
space = 32

-- the second blank
abbrev pub tab : ℕ
tab = 9

-- the third blank: CR
abbrev pub carriage_return : ℕ
carriage_return = 13

-- what parts lines
abbrev pub newline : ℕ
newline = 10

-- space, tab or CR, which parts words and ends no line
abbrev pub is_blank : ℕ → Bool
is_blank b = b == space || b == tab || b == carriage_return

-- a digit below a base
abbrev pub below : ℕ → ℕ → Option ℕ
below base d = if nat_lt d base then Some d else None

-- the value of a digit of either case, where it is one to the base
abbrev pub digit_of : (base byte : ℕ) → Option ℕ
digit_of base b =
    if nat_le digit_0 b && nat_le b digit_9 then below base (b - digit_0) else
    if nat_le small_a b && nat_le b small_f then below base (b - small_a + 10) else
    if nat_le capital_a b && nat_le b capital_f then below base (b - capital_a + 10) else None
