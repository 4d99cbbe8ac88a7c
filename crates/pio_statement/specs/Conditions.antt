-- The condition of a JMP (Pico SDK manual, section 3.3.6): `!x  x--  !y  y--  x!=y  pin  !osre`, or none.
-- `~` equals `!` (choice of this profile).
--   condition_at       a condition, with the place after it
--   past_condition     the place after the comma after a condition; both may be left out
use Rattle.std.specs.Prelude.{ℕ, ◌+◌, List, Option, Some, None, Ok, Err}
use Rattle.pio_lex.specs.declared.keyword.Keyword.{Keyword}
use Rattle.pio_lex.specs.declared.keyword.Keyword.TheVariants as keyword
use Rattle.pio_lex.specs.declared.token.TokenKind.{TokenKind}
use Rattle.pio_lex.specs.declared.token.TokenKind.TheVariants as kind
use Rattle.pio_lex.specs.declared.token.Token.{Token}
use Rattle.pio_encode.specs.declared.act.Condition.{Condition}
use Rattle.pio_encode.specs.declared.act.Condition.TheVariants.{Always, XZero, XDecrement, YZero, YDecrement, XNotY, Pin, OsrNotEmpty}
use Rattle.pio_statement.specs.declared.fault.StatementKind.TheVariants.{Syntax}
use Rattle.pio_statement.specs.Answer.{Read}
use Rattle.pio_statement.specs.Operands.{operand}
use Rattle.pio_statement.specs.Tokens.{kind_at, past_comma}

-- after `!` or `~`: `x y osre`
abbrev pub inverted_of : Keyword → Option Condition
inverted_of keyword.X = Some XZero
inverted_of keyword.Y = Some YZero
inverted_of keyword.Osre = Some OsrNotEmpty
inverted_of _ = None

-- the condition at a place after `!` or `~`
unfoldable pub inverted_at : List Token → ℕ → Read Condition
inverted_at tokens at = operand inverted_of tokens at

-- after `x!=`: `y`
abbrev pub differs_of : Keyword → Option Condition
differs_of keyword.Y = Some XNotY
differs_of _ = None

-- the condition at a place after `x!=`
unfoldable pub differs_at : List Token → ℕ → Read Condition
differs_at tokens at = operand differs_of tokens at

-- after `x`: `--`, or `!=` and `y`
abbrev pub after_x_by : List Token → Option TokenKind → ℕ → Read Condition
after_x_by tokens (Some kind.MinusMinus) at = Ok (XDecrement, at + 1)
after_x_by tokens (Some kind.NotEqual) at = differs_at tokens (at + 1)
after_x_by tokens _ at = Err Syntax

-- the condition at a place after `x`
unfoldable pub after_x : List Token → ℕ → Read Condition
after_x tokens at = after_x_by tokens (kind_at tokens at) at

-- after `y`: `--`
abbrev pub after_y_by : Option TokenKind → ℕ → Read Condition
after_y_by (Some kind.MinusMinus) at = Ok (YDecrement, at + 1)
after_y_by _ at = Err Syntax

-- the condition at a place after `y`
unfoldable pub after_y : List Token → ℕ → Read Condition
after_y tokens at = after_y_by (kind_at tokens at) at

-- a condition that begins with a word; no expression begins with one
abbrev pub after_word : List Token → Keyword → ℕ → Read Condition
after_word tokens keyword.X at = after_x tokens at
after_word tokens keyword.Y at = after_y tokens at
after_word tokens keyword.Pin at = Ok (Pin, at)
after_word tokens _ at = Err Syntax

-- a condition by its first token: none begins with another
abbrev pub condition_by : List Token → Option TokenKind → ℕ → Read Condition
condition_by tokens (Some kind.Bang) at = inverted_at tokens (at + 1)
condition_by tokens (Some kind.Tilde) at = inverted_at tokens (at + 1)
condition_by tokens (Some (kind.Keyword word)) at = after_word tokens word (at + 1)
condition_by tokens _ at = Ok (Always, at)

-- a condition, or none
unfoldable pub condition_at : List Token → ℕ → Read Condition
condition_at tokens at = condition_by tokens (kind_at tokens at) at

-- the place after the comma of a condition, which may be left out; without a condition there is no comma
abbrev pub past_condition : List Token → Condition → ℕ → ℕ
past_condition tokens Always at = at
past_condition tokens _ at = past_comma tokens at
