-- What a word file has: its words, or its first fault.
use Rattle.std.specs.Prelude.{ℕ, ◌+◌, nat_lt, List, [], ◌∷◌, ◌++◌, Result, Ok, Err, if◌then◌else◌, map}
use Rattle.byte_lines.specs.Lines.{lines_of}
use Rattle.word_file.specs.declared.fault.WordKind.TheVariants.{BadWord, TooMany}
use Rattle.word_file.specs.declared.fault.WordFault.{WordFault}
use Rattle.word_file.specs.declared.line.WordLine.{WordLine}
use Rattle.word_file.specs.declared.line.WordLine.TheVariants.{Blank, Word, Bad}
use Rattle.word_file.specs.Line.{line_says}

-- the most words: those of the instruction memory
abbrev pub most_words : ℕ
most_words = 32

-- words with more in front of them
abbrev pub with_front : List ℕ → Result (List ℕ) WordFault → Result (List ℕ) WordFault
with_front front (Ok words) = Ok (front ++ words)
with_front front (Err fault) = Err fault

-- The words of lines that say this, or the first fault. The first of them has this number, and so many words
-- come before it.
abbrev pub words_from : ℕ → ℕ → List WordLine → Result (List ℕ) WordFault
words_from number count [] = Ok []
words_from number count (Blank ∷ rest) = words_from (number + 1) count rest
words_from number count (Bad ∷ rest) = Err (record { line = number; kind = BadWord })
words_from number count (Word w ∷ rest) =
    if nat_lt count most_words then with_front (w ∷ []) (words_from (number + 1) (count + 1) rest)
    else Err (record { line = number; kind = TooMany })

-- the words of a file, or its first fault
unfoldable pub word_file : List ℕ → Result (List ℕ) WordFault
word_file bytes = words_from 1 0 (map line_says (lines_of bytes))
