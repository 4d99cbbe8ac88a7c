-- A number of two digits is its two digits, one after the other.
use Rattle.std.proofs.Common.{arith, refl, append_assoc}
use Rattle.pio_encode.proofs.numerals.push_number.Goals as goal
use Rattle.pio_encode.proofs.TwoDigits.{two_digits}

pub returns-else-number-lt10-clause-bytes : goal.returns-else-number-lt10-clause-bytes
returns-else-number-lt10-clause-bytes c =
    rw (
      two_digits c.args.number (omega arith) (omega arith),
      c.push_digit-else-number-lt10-2.ensures.bytes,
      c.push_digit-else-number-lt10.ensures.bytes,
      append_assoc,
    ) refl
