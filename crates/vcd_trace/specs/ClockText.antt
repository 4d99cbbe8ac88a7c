-- What is kept of the line of a clock, and what is written of digits: words of private clauses.
use Rattle.std.specs.Prelude.{◌≡◌, ℕ, ◌+◌, ◌*◌, ◌/◌, ◌%◌, ◌≤◌, Bool, nat_le, nat_lt, ◌&&◌, List, [], ◌∷◌, ◌++◌, decimal, drop}
use Rattle.vcd_trace.specs.Characters.{newline, hash}

-- from this start the room has the line of a clock of a hundred, whatever its last two digits are
pub record IsKept (room : List ℕ) (start hundred : ℕ) : Type 0 where
  pub hundreds : ℕ
  pub whole : hundred ≡ 100 * hundreds
  pub some : 1 ≤ hundreds
  pub within : start ≤ 22
  pub tens : ℕ
  pub ones : ℕ
  pub text : drop start room ≡ hash ∷ (decimal hundreds ++ tens ∷ ones ∷ newline ∷ [])

-- the line of some clock, and that clock with 0 for its last two digits
pub record Line : Type 0 where
  pub text : List ℕ
  pub hundred : ℕ

-- a clock differs in its last two digits at most from the clocks of a hundred
abbrev pub is_of : (hundred clock : ℕ) → Bool
is_of hundred clock = nat_le hundred clock && nat_lt clock (hundred + 100)

-- the last four binary digits of a number
abbrev pub four_digits : ℕ → List ℕ
four_digits n = (48 + n / 8 % 2) ∷ (48 + n / 4 % 2) ∷ (48 + n / 2 % 2) ∷ (48 + n % 2) ∷ []
