-- What a shift into the ISR and one out of the OSR mean, on numbers.
--   shifted_in   the ISR after an IN
--   shifted_out  what an OUT gives, and the OSR after it
use Rattle.std.specs.Prelude.{ℕ, ◌+◌, ◌-◌, ◌*◌, ◌/◌, ◌%◌, ◌^◌, Bool, if◌then◌else◌}

-- The ISR after an IN of n bits: it moves by n, and the low n bits of the source enter at the end that it left
-- (RP2040 Datasheet, 3.4.4 and the shift directions of SHIFTCTRL in 3.7).
abbrev pub shifted_in : ℕ → ℕ → ℕ → Bool → ℕ
shifted_in isr source n right =
    if right then isr / 2 ^ n + source % 2 ^ n * 2 ^ (32 - n) else (isr * 2 ^ n + source % 2 ^ n) % 2 ^ 32

-- What an OUT of n bits gives, and the OSR after it: the n bits at the end towards which it moves, and zeros at the other
-- (RP2040 Datasheet, 3.4.5 and the shift directions of SHIFTCTRL in 3.7).
abbrev pub shifted_out : ℕ → ℕ → Bool → ℕ × ℕ
shifted_out osr n right =
    if right then (osr % 2 ^ n, osr / 2 ^ n) else (osr / 2 ^ (32 - n), osr * 2 ^ n % 2 ^ 32)
