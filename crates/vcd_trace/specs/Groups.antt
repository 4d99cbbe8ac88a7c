-- What the lines of one group of values are: words of private clauses, which the whole text is made of.
use Rattle.std.specs.Prelude.{ℕ, ◌+◌, ◌==◌, ◌&&◌, Bool, List, [], ◌∷◌, ◌++◌, replicate, if◌then◌else◌}
use Rattle.block_core.specs.declared.sample.Sample.{Sample}
use Rattle.block_core.specs.Sample.{bits_of, same_numbers}
use Rattle.vcd_trace.specs.VcdText.{value_lines, change_lines, vector_line}

-- the lines of so many bits of a number
unfoldable pub bit_lines : ℕ → ℕ → ℕ → List ℕ
bit_lines id count now = value_lines id (replicate count 1) (bits_of count now)

-- the lines of those bits of a number that are not what they were
unfoldable pub bit_changes : ℕ → ℕ → ℕ → ℕ → List ℕ
bit_changes id count before now = change_lines id (replicate count 1) (bits_of count before) (bits_of count now)

-- the lines of values of more than one bit
abbrev pub vector_lines : ℕ → List ℕ → List ℕ
vector_lines id [] = []
vector_lines id (v ∷ vs) = vector_line id v ++ vector_lines (id + 1) vs

-- the lines of those values of more than one bit that are not what they were
abbrev pub vector_changes : ℕ → List ℕ → List ℕ → List ℕ
vector_changes id (was ∷ before) (is ∷ now) = (if was == is then [] else vector_line id is) ++ vector_changes (id + 1) before now
vector_changes id _ _ = []

-- a sample's values of more than one bit, in order
abbrev pub vectors_of : Sample → List ℕ
vectors_of s = s.tx ++ s.rx ++ s.got ++ s.sticky

-- two samples agree in the values of more than one bit
abbrev pub same_words : Sample → Sample → Bool
same_words a b = same_numbers a.got b.got && (same_numbers a.tx b.tx && (same_numbers a.rx b.rx && same_numbers a.sticky b.sticky))

-- two samples agree in all but the levels
abbrev pub same_rest : Sample → Sample → Bool
same_rest a b = (a.direction == b.direction) && ((a.flags == b.flags) && same_words a b)
