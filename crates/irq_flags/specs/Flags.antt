-- What the eight interrupt flags of a block are after a clock, and which of them an instruction means.
--   flag_of       the number of the flag
--   merged_flags  the flags after all that the machines do to them in a clock
--   merged_flag   the same for one flag
use Rattle.std.specs.Prelude.{ℕ, ◌+◌, ◌-◌, ◌*◌, ◌%◌, ◌^◌, ◌==◌, if◌then◌else◌, bit_and, bit_or}
use Rattle.std.specs.Int.{bit_at}

-- The flag that an index of five bits means on a machine: its bits 2..0 without bit 4, and with bit 4 the machine's number
-- is added to bits 1..0 modulo 4 while bit 2 stays (RP2040 Datasheet, 3.4.9). Bit 3 doesn't count (choice of this profile).
abbrev pub flag_of : ℕ → ℕ → ℕ
flag_of index machine =
    if bit_at index 4 == 1 then bit_at index 2 * 4 + (index % 4 + machine) % 4 else index % 8

-- The flags that are up after some were lowered: those that were up and are not among these.
abbrev pub lowered_flags : ℕ → ℕ → ℕ
lowered_flags up clears = if clears == 0 then up else bit_and up (2 ^ 8 - 1 - clears)

-- The flags that are up after a clock that lowers some and raises some: all lowerings come first, then all raisings
-- (choice of this profile; the datasheet is silent).
abbrev pub merged_flags : ℕ → ℕ → ℕ → ℕ
merged_flags up clears sets = bit_or sets (lowered_flags up clears)

-- Flag i after such a clock, 1 where it is up: raised if anyone raises it, else down if anyone lowers it, else as before.
abbrev pub merged_flag : ℕ → ℕ → ℕ → ℕ → ℕ
merged_flag up clears sets i =
    if bit_at sets i == 1 then 1 else if bit_at clears i == 1 then 0 else bit_at up i
