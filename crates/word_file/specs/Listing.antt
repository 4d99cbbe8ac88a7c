-- The lines of words (choice of this profile).
use Rattle.std.specs.Prelude.{ℕ, ◌+◌, ◌/◌, ◌%◌, Bool, false, List, [], ◌∷◌, ◌++◌, codes}
use Rattle.byte_lines.specs.Bytes.{digit_0}
use Rattle.pio_encode.specs.declared.rule.SideRule.{SideRule}
use Rattle.pio_encode.specs.Spelling.{hexadecimal_digit, spelled}
use Rattle.setup_keys.proofs.Making.{a_rule_says}

-- a place in the memory as two decimal digits
abbrev pub place_text : ℕ → List ℕ
place_text place = (digit_0 + place / 10) ∷ (digit_0 + place % 10) ∷ []

-- a word as four lower-case hexadecimal digits
abbrev pub hexadecimal : ℕ → List ℕ
hexadecimal w = hexadecimal_digit w 12 ++ hexadecimal_digit w 8 ++ hexadecimal_digit w 4 ++ hexadecimal_digit w 0

-- the line of a word: its place, its digits, its text
unfoldable pub word_line : SideRule → ℕ → ℕ → List ℕ
word_line rule place w = place_text place ++ codes " " ++ hexadecimal w ++ codes " " ++ spelled w rule ++ codes "\n"

-- the lines of words from a place on
abbrev pub lines_from : SideRule → ℕ → List ℕ → List ℕ
lines_from rule place [] = []
lines_from rule place (w ∷ words) = word_line rule place w ++ lines_from rule (place + 1) words

-- the lines of words that are from address 0 on
abbrev pub word_lines : SideRule → List ℕ → List ℕ
word_lines rule words = lines_from rule 0 words

-- the rule of so many side-set bits for levels, at most as many as there is room for (`a_clipped_rule_has_a_rule`)
unfoldable pub rule_for : ℕ → Bool → SideRule
rule_for bits opt = (a_rule_says (record { bits = bits; opt = opt; pindirs = false })).0
