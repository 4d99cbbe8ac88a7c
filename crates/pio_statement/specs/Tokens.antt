-- Reading single tokens, names and expressions.
--   kind_at        what is at a place, if a token does
--   ends_at        a line ends at a place
--   past_comma     the place after a comma, which may be left out
--   past_colon, past_close      the place after a `:` or a `]`
--   past_open, past_side        the place after a `[` or `side`, if one is there
--   keyword_at, name_at, expression      what is read at a place, with the place after it
use Rattle.std.specs.Prelude.{ℕ, ◌+◌, List, Bool, true, false, Option, Some, None, Result, Ok, Err, slice_get, slice_range}
use Rattle.pio_lex.specs.declared.keyword.Keyword.{Keyword}
use Rattle.pio_lex.specs.declared.keyword.Keyword.TheVariants as keyword
use Rattle.pio_lex.specs.declared.token.TokenKind.{TokenKind}
use Rattle.pio_lex.specs.declared.token.TokenKind.TheVariants as kind
use Rattle.pio_lex.specs.declared.token.Token.{Token}
use Rattle.pio_expr.specs.declared.expr.Item.{Item}
use Rattle.pio_expr.specs.declared.fault.ExprKind.{ExprKind}
use Rattle.pio_expr.specs.declared.fault.ExprKind.TheVariants as expr_kind
use Rattle.pio_expr.specs.declared.fault.ExprRefusal.{ExprRefusal}
use Rattle.pio_expr.specs.Grammar.{expression_at}
use Rattle.pio_statement.specs.declared.fault.StatementKind.{StatementKind}
use Rattle.pio_statement.specs.declared.fault.StatementKind.TheVariants.{Syntax, TooDeep, Ambiguous}
use Rattle.pio_statement.specs.Answer.{Read}

-- what the token at a place is, if there is one
abbrev pub kind_by : Option Token → Option TokenKind
kind_by (Some token) = Some token.kind
kind_by None = None

-- what is at a place
unfoldable pub kind_at : List Token → ℕ → Option TokenKind
kind_at tokens at = kind_by (slice_get tokens at)

-- a line ends with its Newline, or with the tokens
abbrev pub ends_by : Option TokenKind → Bool
ends_by (Some kind.Newline) = true
ends_by None = true
ends_by _ = false

-- a line ends at a place
unfoldable pub ends_at : List Token → ℕ → Bool
ends_at tokens at = ends_by (kind_at tokens at)

-- the place after a comma, which may be left out
abbrev pub past_comma_by : Option TokenKind → ℕ → ℕ
past_comma_by (Some kind.Comma) at = at + 1
past_comma_by _ at = at

-- the place after a comma, if one is at a place
unfoldable pub past_comma : List Token → ℕ → ℕ
past_comma tokens at = past_comma_by (kind_at tokens at) at

-- the place after a `:`
abbrev pub past_colon_by : Option TokenKind → ℕ → Result ℕ StatementKind
past_colon_by (Some kind.Colon) at = Ok (at + 1)
past_colon_by _ at = Err Syntax

-- the place after the `:` at a place
unfoldable pub past_colon : List Token → ℕ → Result ℕ StatementKind
past_colon tokens at = past_colon_by (kind_at tokens at) at

-- the place after a `]`
abbrev pub past_close_by : Option TokenKind → ℕ → Result ℕ StatementKind
past_close_by (Some kind.CloseBracket) at = Ok (at + 1)
past_close_by _ at = Err Syntax

-- the place after the `]` at a place
unfoldable pub past_close : List Token → ℕ → Result ℕ StatementKind
past_close tokens at = past_close_by (kind_at tokens at) at

-- the keyword at a place, if one is there, with the place after it
abbrev pub keyword_by : Option TokenKind → ℕ → Option (Keyword × ℕ)
keyword_by (Some (kind.Keyword word)) at = Some (word, at + 1)
keyword_by _ at = None

-- the keyword at a place
unfoldable pub keyword_at : List Token → ℕ → Option (Keyword × ℕ)
keyword_at tokens at = keyword_by (kind_at tokens at) at

-- the place after a `[`, if one is there
abbrev pub past_open_by : Option TokenKind → ℕ → Option ℕ
past_open_by (Some kind.OpenBracket) at = Some (at + 1)
past_open_by _ at = None

-- the place after the `[` at a place
unfoldable pub past_open : List Token → ℕ → Option ℕ
past_open tokens at = past_open_by (kind_at tokens at) at

-- the place after a word, if it is `side`
abbrev pub after_side : Keyword → ℕ → Option ℕ
after_side keyword.Side after = Some after
after_side _ after = None

-- the place after the word `side`, if it is there
abbrev pub past_side_by : Option (Keyword × ℕ) → Option ℕ
past_side_by (Some (word, after)) = after_side word after
past_side_by None = None

-- the place after the `side` at a place
unfoldable pub past_side : List Token → ℕ → Option ℕ
past_side tokens at = past_side_by (keyword_at tokens at)

-- a name, which is no keyword, as it is in the source
abbrev pub name_of : List ℕ → TokenKind → ℕ → ℕ → ℕ → Read (List ℕ)
name_of source kind.Name first size at = Ok (slice_range source first (first + size), at + 1)
name_of source _ first size at = Err Syntax

-- a name, if a token is there
abbrev pub name_by : List ℕ → Option Token → ℕ → Read (List ℕ)
name_by source (Some token) at = name_of source token.kind token.first token.length at
name_by source None at = Err Syntax

-- the name at a place
unfoldable pub name_at : List ℕ → List Token → ℕ → Read (List ℕ)
name_at source tokens at = name_by source (slice_get tokens at) at

-- a fault of an expression is one of its line
abbrev pub kind_of : ExprKind → StatementKind
kind_of expr_kind.Syntax = Syntax
kind_of expr_kind.TooDeep = TooDeep
kind_of expr_kind.Ambiguous = Ambiguous

-- an expression, or its line's fault
abbrev pub of_line : {X : Type 0} → Result X ExprRefusal → Result X StatementKind
of_line (Ok read) = Ok read
of_line (Err refusal) = Err (kind_of refusal.kind)

-- the expression at a place
unfoldable pub expression : List ℕ → List Token → ℕ → Read (List Item)
expression source tokens at = of_line (expression_at source tokens at)
