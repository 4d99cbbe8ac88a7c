-- What a transmitter sends where the clocks are enough for all of it.
--   all_frames      a frame for each byte
use Rattle.std.specs.Prelude.{ℕ, ◌+◌, ◌*◌, ◌%◌, true, List, [], ◌∷◌}
use Rattle.serial_receiver.specs.declared.frame.Frame.{Frame}

-- frame j of these bytes and those after it, a frame each
abbrev pub all_frames : (divider j : ℕ) → (bytes : List ℕ) → List Frame
all_frames divider j [] = []
all_frames divider j (byte ∷ bytes) =
    record { start = divider * (9 + 80 * j); byte = byte % 256; good = true } ∷ all_frames divider (j + 1) bytes
