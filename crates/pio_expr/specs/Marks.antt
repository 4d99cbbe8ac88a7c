-- What a token is to an expression (Pico SDK manual, section 3.3.2: values and expressions).
use Rattle.std.specs.Prelude.{ℕ, List, Option, Some, None, slice_get}
use Rattle.pio_lex.specs.declared.token.TokenKind.{TokenKind}
use Rattle.pio_lex.specs.declared.token.TokenKind.TheVariants as kind
use Rattle.pio_lex.specs.declared.token.Token.{Token}
use Rattle.pio_expr.specs.declared.mark.TokenMark.{TokenMark}
use Rattle.pio_expr.specs.declared.mark.TokenMark.TheVariants.{Value, Open, Close, Plus, Minus, Star, Slash, Reverse, Other}

-- what a token of this kind is
abbrev pub mark_of : TokenKind → TokenMark
mark_of (kind.Number value) = Value
mark_of kind.Name = Value
mark_of kind.OpenParen = Open
mark_of kind.CloseParen = Close
mark_of kind.Plus = Plus
mark_of kind.Minus = Minus
mark_of kind.Star = Star
mark_of kind.Slash = Slash
mark_of kind.DoubleColon = Reverse
mark_of _ = Other

-- what this token is, where there is one
abbrev pub mark_by : Option Token → TokenMark
mark_by (Some token) = mark_of token.kind
mark_by None = Other

-- what is at a place, counted from 0
unfoldable pub mark_at : List Token → ℕ → TokenMark
mark_at tokens at = mark_by (slice_get tokens at)
