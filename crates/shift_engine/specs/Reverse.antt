-- What a word with its bits in the opposite order is.
--   reversed_low     its lowest bits alone
--   reversed_bits    all 32
--   reversed_signed  all 32 of a signed number
use Rattle.std.specs.Prelude.{ℕ, zero, suc, ℤ, ◌+◌, ◌*◌, ◌/◌, ◌%◌, ◌^◌}
use Rattle.std.specs.Int.{cast_signed, cast_unsigned, w32}

-- The lowest n bits of a word: the lowest comes first, and the others follow below it.
unfoldable pub reversed_low : ℕ → ℕ → ℕ
reversed_low zero word = 0
reversed_low (suc n) word = word % 2 * 2 ^ n + reversed_low n (word / 2)

-- The 32 bits of a word in the opposite order (RP2040 Datasheet, 3.4.8, the bit-reverse of MOV).
unfoldable pub reversed_bits : ℕ → ℕ
reversed_bits word = reversed_low 32 word

-- The same on the two's complement of a signed number (Pico SDK manual, the operator `::`).
abbrev pub reversed_signed : ℤ → ℤ
reversed_signed number = cast_signed w32 (reversed_bits (cast_unsigned w32 number))
