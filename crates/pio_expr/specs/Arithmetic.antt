-- What the operations of an expression give: whole numbers, each result a signed number of 32 bits (choice of this profile).
use Rattle.std.specs.Prelude.{zero, ℤ, ◌^◌, pos, negsuc, ◌+ℤ◌, ◌-ℤ◌, ◌*ℤ◌, neg_ℤ, int_div, nat_lt, Bool, Result, Ok, Err, if◌then◌else◌}
use Rattle.shift_engine.specs.Reverse.{reversed_signed}
use Rattle.pio_expr.specs.declared.fault.ValueKind.{ValueKind}
use Rattle.pio_expr.specs.declared.fault.ValueKind.TheVariants.{DivZero, Overflow}

-- a signed number of 32 bits
abbrev pub in_32_bits : ℤ → Bool
in_32_bits (pos n) = nat_lt n (2 ^ 31)
in_32_bits (negsuc n) = nat_lt n (2 ^ 31)

-- a result, where it is one
unfoldable pub checked : ℤ → Result ℤ ValueKind
checked number = if in_32_bits number then Ok number else Err Overflow

-- the sum
abbrev pub sum_of : ℤ → ℤ → Result ℤ ValueKind
sum_of left right = checked (left +ℤ right)

-- the difference
abbrev pub difference_of : ℤ → ℤ → Result ℤ ValueKind
difference_of left right = checked (left -ℤ right)

-- the product
abbrev pub product_of : ℤ → ℤ → Result ℤ ValueKind
product_of left right = checked (left *ℤ right)

-- the quotient, cut off toward zero
abbrev pub quotient_of : ℤ → ℤ → Result ℤ ValueKind
quotient_of left (pos zero) = Err DivZero
quotient_of left right = checked (int_div left right)

-- the number with the other sign
abbrev pub negated : ℤ → Result ℤ ValueKind
negated number = checked (neg_ℤ number)

-- `::`: the 32 bits in the opposite order
abbrev pub reversed : ℤ → ℤ
reversed number = reversed_signed number
