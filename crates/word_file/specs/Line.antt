-- What a line of a word file says (choice of this profile).
use Rattle.std.specs.Prelude.{ℕ, ◌+◌, ◌*◌, Option, Some, None, List, [], ◌∷◌, if◌then◌else◌}
use Rattle.std.specs.List.{list_all}
use Rattle.answers.specs.Steps.{◌>>=◌}
use Rattle.byte_lines.specs.Bytes.{is_blank, digit_of}
use Rattle.word_file.specs.declared.line.WordLine.{WordLine}
use Rattle.word_file.specs.declared.line.WordLine.TheVariants.{Blank, Word, Bad}

-- a line from its first byte on that is no blank
abbrev pub after_blanks : List ℕ → List ℕ
after_blanks [] = []
after_blanks (b ∷ bs) = if is_blank b then after_blanks bs else b ∷ bs

-- the value of a hexadecimal digit of either case
abbrev pub hexadecimal_digit : ℕ → Option ℕ
hexadecimal_digit byte = digit_of 16 byte

-- the word of four digits, the highest first
abbrev pub word_of : ℕ → ℕ → ℕ → ℕ → Option ℕ
word_of a b c d = do
  high ← hexadecimal_digit a
  second ← hexadecimal_digit b
  third ← hexadecimal_digit c
  low ← hexadecimal_digit d
  Some (4096 * high + 256 * second + 16 * third + low)

-- a word, or a bad line
abbrev pub word_or_bad : Option ℕ → WordLine
word_or_bad None = Bad
word_or_bad (Some w) = Word w

-- what a line says that begins with no blank: nothing, or four digits with blanks alone after them
abbrev pub said : List ℕ → WordLine
said [] = Blank
said (a ∷ b ∷ c ∷ d ∷ rest) = if list_all is_blank rest then word_or_bad (word_of a b c d) else Bad
said _ = Bad

-- what a line says
abbrev pub line_says : List ℕ → WordLine
line_says line = said (after_blanks line)
