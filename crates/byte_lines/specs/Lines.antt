-- What the lines of a text are: the parts between its newlines.
use Rattle.std.specs.Prelude.{ℕ, ◌+◌, ◌==◌, List, [], length, Option, Some, None}
use Rattle.std.specs.List.{slice_split}
use Rattle.byte_lines.specs.Bytes.{newline}

-- the lines of a text, which its newlines part; one more than it has newlines
abbrev pub lines_of : List ℕ → List (List ℕ)
lines_of text = slice_split (λ b. b == newline) text

-- the lines of a text that may be used up
abbrev pub lines_left : Option (List ℕ) → List (List ℕ)
lines_left None = []
lines_left (Some text) = lines_of text

-- how much of a text is left, which falls with each line
abbrev pub left_size : Option (List ℕ) → ℕ
left_size None = 0
left_size (Some text) = length text + 1
