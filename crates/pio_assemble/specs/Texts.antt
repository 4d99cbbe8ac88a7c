-- What it is for a text to be the text of a word.
use Rattle.std.specs.Prelude.{◌≡◌, ℕ, List, [], ◌∷◌, Ok}
use Rattle.pio_encode.specs.declared.rule.SideRule.{SideRule}
use Rattle.pio_expr.specs.Values.{Scope}
use Rattle.pio_lex.specs.declared.token.Token.{Token}
use Rattle.pio_lex.specs.Reading.{reading_of}
use Rattle.pio_statement.specs.declared.statement.Code.{Code}
use Rattle.pio_statement.specs.declared.statement.Statement.TheVariants as statement
use Rattle.pio_assemble.specs.Lines.{lines_of}
use Rattle.pio_assemble.specs.Operands.{word_of_code}

-- a text is one line of code, whose word under a rule is this one, whatever symbols there are
pub record IsReadAs (word : ℕ) (rule : SideRule) (text : List ℕ) : Type 0 where
  pub tokens : List Token
  pub code : Code
  pub are_its_tokens : reading_of text ≡ Ok tokens
  pub is_its_line : lines_of text tokens ≡ record { number = 1; reading = Ok (statement.Code code) } ∷ []
  pub is_its_word : (scope : Scope) → word_of_code scope rule code ≡ Ok word
