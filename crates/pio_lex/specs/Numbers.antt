-- What numbers a source writes (Pico SDK manual, section 3.3); the greatest is a choice of this profile.
use Rattle.std.specs.Prelude.{ℕ, Bool, ◌==◌, ◌&&◌, ◌||◌, not, nat_le, List, length, drop, Option, Some, None, codes, if◌then◌else◌}
use Rattle.std.specs.List.{list_all}
use Rattle.std.specs.Char.{is_digit}
use Rattle.std.specs.Str.Parse.{digits_value}
use Rattle.pio_lex.specs.Bytes.{begins_with}

-- the greatest number
abbrev pub greatest : ℕ
greatest = 2147483647

-- a value that isn't too large
abbrev pub within : ℕ → Option ℕ
within n = if nat_le n greatest then Some n else None

-- one digit of the radix or more, of a value that isn't too large
abbrev pub numeral : ℕ → List ℕ → Option ℕ
numeral radix digits =
    if not (length digits == 0) && list_all (λ b. is_digit b radix) digits then within (digits_value radix digits) else None

-- a word that begins with `0x` or `0X`
abbrev pub is_hexadecimal : List ℕ → Bool
is_hexadecimal word = begins_with (codes "0x") word || begins_with (codes "0X") word

-- a word that begins with `0b` or `0B`
abbrev pub is_binary : List ℕ → Bool
is_binary word = begins_with (codes "0b") word || begins_with (codes "0B") word

-- the number of a word: hexadecimal after `0x`, binary after `0b`, else decimal; leading zeros are right
unfoldable pub word_number : List ℕ → Option ℕ
word_number word =
    if is_hexadecimal word then numeral 16 (drop 2 word) else
    if is_binary word then numeral 2 (drop 2 word) else
    numeral 10 word
