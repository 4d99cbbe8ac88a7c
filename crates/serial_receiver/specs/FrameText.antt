-- The text of frames, a line each.
use Rattle.std.specs.Prelude.{ℕ, ◌+◌, ◌/◌, ◌%◌, List, [], ◌∷◌, ◌++◌, codes, decimal, nat_lt, if◌then◌else◌}
use Rattle.std.specs.List.{flat_map}
use Rattle.serial_receiver.specs.declared.frame.Frame.{Frame}

-- a lower-case hexadecimal digit
abbrev pub hexadecimal_digit : ℕ → ℕ
hexadecimal_digit digit = if nat_lt digit 10 then 48 + digit else 87 + digit

-- a byte in two hexadecimal digits
abbrev pub hexadecimal : ℕ → List ℕ
hexadecimal byte = hexadecimal_digit (byte / 16) ∷ hexadecimal_digit (byte % 16) ∷ []

-- the line of a good frame (choice of this profile)
abbrev pub byte_line : Frame → List ℕ
byte_line f = codes "byte 0x" ++ hexadecimal f.byte ++ codes " at " ++ decimal f.start ++ codes "\n"

-- the line of a frame whose stop bit is low (choice of this profile)
abbrev pub bad_line : Frame → List ℕ
bad_line f = codes "bad at " ++ decimal f.start ++ codes "\n"

-- the line of a frame
unfoldable pub frame_line : Frame → List ℕ
frame_line f = if f.good then byte_line f else bad_line f

-- The text of frames in order.
abbrev pub frames_text : List Frame → List ℕ
frames_text fs = flat_map frame_line fs
