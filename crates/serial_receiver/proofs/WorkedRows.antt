-- Worked rows: the frames in levels that were written by hand.
use Rattle.std.proofs.Common.{◌≡◌, Bool, true, false, List, [], ◌∷◌, ◌++◌, codes, refl, replicate}
use Rattle.serial_receiver.specs.Frames.{frame_at, frames, frames_from}
use Rattle.serial_receiver.specs.FrameText.{hexadecimal}

-- the byte 0x41, a bit every eight clocks, after nine clocks of a high level
abbrev letter : List Bool
letter =
    replicate 9 true ++ replicate 8 false ++ replicate 8 true ++ replicate 40 false ++ replicate 8 true ++ replicate 8 false

-- its stop bit is read in its middle, 76 clocks after the fall
a_byte : frames 8 false (letter ++ replicate 5 true) ≡ record { start = 9; byte = 0x41; good = true } ∷ []
unfolding frames_from frame_at
a_byte = refl

-- one clock earlier it isn't known
not_yet : frames 8 false (letter ++ replicate 4 true) ≡ []
unfolding frames_from frame_at
not_yet = refl

-- A line that stays low is one bad frame: without a rise there is no further fall.
a_break : frames 2 true (replicate 60 false) ≡ record { start = 0; byte = 0; good = false } ∷ []
unfolding frames_from frame_at
a_break = refl

-- half of three clocks is one: each bit is read in the middle one of its clocks
odd_bits : frames 3 true (replicate 3 false ++ (false ∷ true ∷ false ∷ []) ++ replicate 21 false ++ (false ∷ true ∷ []))
    ≡ record { start = 0; byte = 1; good = true } ∷ []
unfolding frames_from frame_at
odd_bits = refl

-- A fall in the clock in which a stop bit is read begins no frame: the next one begins with a fall after it.
a_fall_at_the_stop : frames 2 true (replicate 18 false ++ true ∷ false ∷ true ∷ false ∷ replicate 25 true)
    ≡ record { start = 0; byte = 0; good = false } ∷ record { start = 21; byte = 0xff; good = true } ∷ []
unfolding frames_from frame_at
a_fall_at_the_stop = refl

-- After a bad frame a line that stays low begins none: the next one begins with the fall after its rise.
a_rise_after_a_break : frames 2 true (replicate 30 false ++ replicate 3 true ++ replicate 2 false ++ replicate 20 true)
    ≡ record { start = 0; byte = 0; good = false } ∷ record { start = 33; byte = 0xff; good = true } ∷ []
unfolding frames_from frame_at
a_rise_after_a_break = refl

-- Half of five clocks is two: the bits 0 and 7 and the stop bit are high in their middle clocks alone.
odd_middles : frames 5 true (replicate 7 false ++ true ∷ replicate 34 false ++ true ∷ replicate 4 false ++ true ∷ [])
    ≡ record { start = 0; byte = 0x81; good = true } ∷ []
unfolding frames_from frame_at
odd_middles = refl

-- a byte in two digits
two_digits : hexadecimal 0x4f ≡ codes "4f"
two_digits = refl
