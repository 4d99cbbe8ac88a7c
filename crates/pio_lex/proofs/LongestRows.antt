-- Rows of the longest spelling, worked by hand: where the text goes on to spell a token, what comes before is not the longest.
use Rattle.std.proofs.Common.{refl, arith}
use Rattle.std.specs.Prelude.{codes}
use Rattle.pio_lex.specs.declared.keyword.Keyword.TheVariants as keyword
use Rattle.pio_lex.specs.declared.directive.Directive.TheVariants as directive
use Rattle.pio_lex.specs.declared.token.TokenKind.TheVariants as kind
use Rattle.pio_lex.specs.Words.{keyword_of, row_of, keywords, directive_of, directives}
use Rattle.pio_lex.specs.Numbers.{word_number}
use Rattle.pio_lex.specs.Spellings.{IsLongest}

-- `+` spells a token, so no byte of it isn't the longest
plus_row : IsLongest (codes "+") 0 → ⊥
plus_row is = is kind.Plus 1 (omega arith) (omega arith) refl

-- `::` is one token, so `:` isn't the longest
colons_row : IsLongest (codes "::") 1 → ⊥
colons_row is = is kind.DoubleColon 2 (omega arith) (omega arith) refl

-- also where the text goes on
decrement_row : IsLongest (codes "--, 3") 1 → ⊥
decrement_row is = is kind.MinusMinus 2 (omega arith) (omega arith) refl

-- `jm` is a name, but `jmp` is a keyword
keyword_row : IsLongest (codes "jmp again") 2 → ⊥
unfolding keyword_of row_of keywords
keyword_row is = is (kind.Keyword keyword.Jmp) 3 (omega arith) (omega arith) ((refl, refl), refl)

-- `jmp` is a keyword, but `jmp1` is a name
name_row : IsLongest (codes "jmp1") 3 → ⊥
unfolding keyword_of row_of keywords
name_row is = is kind.Name 4 (omega arith) (omega arith) ((refl, refl), refl)

-- `0x1` is a number, and `0x1f` a longer one
number_row : IsLongest (codes "0x1f\n") 3 → ⊥
unfolding word_number
number_row is = is (kind.Number 31) 4 (omega arith) (omega arith) (refl, refl, omega arith)

-- `.wrap` is a directive, and `.wrap_target` a longer one
directive_row : IsLongest (codes ".wrap_target\n") 5 → ⊥
unfolding directive_of row_of directives
directive_row is = is (kind.Directive directive.WrapTarget) 12 (omega arith) (omega arith) (refl, (refl, refl), refl)
