-- The frames that a serial receiver hears on one pin: a start bit, eight data bits, the lowest first, and a stop bit (8n1), each of
-- `bit` clocks. All times are in clocks.
--   levels_of      a pin's output level after each clock
--   middle         where a bit is read, after the fall that begins its frame
--   bits_read      what the first data bits come to
--   frame_at       the frame that begins with a fall
--   frames_from    the frames that begin at a clock or later
--   frames         all frames
use Rattle.std.specs.Prelude.{ℕ, zero, suc, ◌+◌, ◌*◌, ◌/◌, ◌^◌, ◌&&◌, Bool, false, not, List, [], ◌∷◌, if◌then◌else◌, length, map, nat_le, nat_lt, slice_index_or}
use Rattle.pin_matrix.specs.Pins.{is_high}
use Rattle.block_core.specs.declared.sample.Sample.{Sample}
use Rattle.serial_receiver.specs.declared.frame.Frame.{Frame}

-- the level of a pin after each of these clocks
abbrev pub levels_of : (pin : ℕ) → List Sample → List Bool
levels_of pin told = map (λ s. is_high s.level pin) told

-- The clocks from the fall that begins a frame up to the middle of a bit: data bit i is bit i, the stop bit is bit 8. Half a bit of
-- an odd number of clocks is rounded down.
abbrev pub middle : (bit i : ℕ) → ℕ
middle bit i = bit / 2 + bit * (1 + i)

-- the level so many clocks after the fall, in the levels from the fall on
abbrev pub level_in : List Bool → ℕ → Bool
level_in ahead after = slice_index_or ahead after false

-- what a data bit adds to the byte
abbrev pub bit_value : (level : Bool) (i : ℕ) → ℕ
bit_value level i = if level then 2 ^ i else 0

-- what the first data bits come to, the lowest first, by the level so many clocks after the fall
abbrev pub bits_read : (at : ℕ → Bool) → (bit count : ℕ) → ℕ
bits_read at bit zero = 0
bits_read at bit (suc i) = bits_read at bit i + bit_value (at (middle bit i)) i

-- the frame that begins with the fall in this clock: it is good where its stop bit is high
unfoldable pub frame_at : (at : ℕ → Bool) → (bit clock : ℕ) → Frame
frame_at at bit clock = record { start = clock; byte = bits_read at bit 8; good = at (middle bit 8) }

-- the level falls
abbrev pub falls : (before level : Bool) → Bool
falls before level = before && not level

-- The frames that begin at clock `from` or later, in these levels, of which the first is that after clock `clock`; before it the
-- level is `before`. A frame begins with the first fall. It is given where its stop bit is read before the levels end, and then the
-- next frame is looked for from the clock after that one on. A frame whose stop bit isn't read isn't given, and none after it.
unfoldable pub frames_from : (bit from clock : ℕ) → (before : Bool) → List Bool → List Frame
frames_from bit from clock before [] = []
frames_from bit from clock before (level ∷ rest) =
    if nat_le from clock && falls before level
    then (if nat_lt (middle bit 8) (length (level ∷ rest))
    then frame_at (level_in (level ∷ rest)) bit clock ∷ frames_from bit (clock + middle bit 8 + 1) (clock + 1) level rest
    else [])
    else frames_from bit from (clock + 1) level rest

-- The frames in the levels after each clock from 0 on, with this level before clock 0.
abbrev pub frames : (bit : ℕ) → (before : Bool) → List Bool → List Frame
frames bit before levels = frames_from bit 0 0 before levels
