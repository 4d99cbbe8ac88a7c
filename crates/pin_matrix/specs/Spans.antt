-- What the types of a span keep (choices of this profile).
--   is_in_ticks          what a span's bounds count
--   is_span_name         the form of a span's name
--   are_addresses        places in memory
--   are_few_addresses    what a key of a span may name
--   signal_bits          of all pins, the watched signal
--   is_signal            a write of a signal is one of the watched signal
--   side_signal          what side-set writes
use Rattle.std.specs.Prelude.{ℕ, nat_le, nat_lt, ◌==◌, ◌&&◌, ◌||◌, if◌then◌else◌, Bool, true, false, Option, Some, None, List, length}
use Rattle.std.specs.Char.{is_ascii_alphanumeric}
use Rattle.std.specs.List.{list_all}
use Rattle.pin_matrix.specs.declared.machine.MachineSetup.{MachineSetup}
use Rattle.pin_matrix.specs.declared.span.PinSignal.{PinSignal}
use Rattle.pin_matrix.specs.declared.span.PinSignal.TheVariants.{Level, Direction}
use Rattle.pin_matrix.specs.declared.span.SpanUnit.{SpanUnit}
use Rattle.pin_matrix.specs.declared.span.SpanUnit.TheVariants.{Ticks, Clocks}

-- a span's bounds count ticks
abbrev pub is_in_ticks : SpanUnit → Bool
is_in_ticks Ticks = true
is_in_ticks Clocks = false

-- the character `_` in ASCII
abbrev pub underscore : ℕ
underscore = 95

-- the character `-` in ASCII
abbrev pub hyphen : ℕ
hyphen = 45

-- a letter, a digit, `_` or `-`
abbrev pub is_name_byte : ℕ → Bool
is_name_byte b = (is_ascii_alphanumeric b || b == underscore) || b == hyphen

-- 1 to 32 of them
abbrev pub is_span_name : List ℕ → Bool
is_span_name name = (nat_le 1 (length name) && nat_le (length name) 32) && list_all (λ b. is_name_byte b) name

-- each is an address of the instruction memory
abbrev pub are_addresses : List ℕ → Bool
are_addresses addresses = list_all (λ a. nat_lt a 32) addresses

-- at most 16 addresses
abbrev pub are_few_addresses : List ℕ → Bool
are_few_addresses addresses = nat_le (length addresses) 16 && are_addresses addresses

-- Of all pins, the levels, or the directions, whose bits are 1 where a pin is an output. All are 0 where no signal is watched.
abbrev pub signal_bits : Option PinSignal → (levels directions : ℕ) → ℕ
signal_bits None levels directions = 0
signal_bits (Some Level) levels directions = levels
signal_bits (Some Direction) levels directions = directions

-- the written signal is the watched one
abbrev pub is_signal : (written : PinSignal) → (watched : Option PinSignal) → Bool
is_signal Level (Some Level) = true
is_signal Level (Some Direction) = false
is_signal Direction (Some Level) = false
is_signal Direction (Some Direction) = true
is_signal _ None = false

-- side-set writes levels, unless the machine's rule sends it to directions (RP2040 Datasheet, section 3.5.1)
abbrev pub side_signal : MachineSetup → PinSignal
side_signal s = if s.side_rule.pindirs then Direction else Level
