-- A line and its statement: the statement takes the whole line, and an unknown directive on it goes before any other
-- fault (choice of this profile).
--   line_end           the place after a line
--   has_unknown        an unknown directive is on the line
--   statement_at       the statement of the line that begins at a token, with the place after the line, or its fault
use Rattle.std.specs.Prelude.{ℕ, ◌+◌, List, length, drop, position, slice_range, Bool, true, false, if◌then◌else◌, Option, Some, None, Ok, Err}
use Rattle.std.specs.List.{list_any}
use Rattle.pio_lex.specs.declared.directive.Directive.{Directive}
use Rattle.pio_lex.specs.declared.directive.Directive.TheVariants as directive
use Rattle.pio_lex.specs.declared.token.TokenKind.{TokenKind}
use Rattle.pio_lex.specs.declared.token.TokenKind.TheVariants as kind
use Rattle.pio_lex.specs.declared.token.Token.{Token}
use Rattle.pio_statement.specs.declared.fault.StatementKind.TheVariants.{Directive as UnknownDirective, Syntax}
use Rattle.pio_statement.specs.declared.statement.Statement.{Statement}
use Rattle.answers.specs.Answers.{◌>>=◌}
use Rattle.pio_statement.specs.Answer.{Read}
use Rattle.pio_statement.specs.Tokens.{ends_at}
use Rattle.pio_statement.specs.Statements.{statement_from}

-- a line ends here
abbrev pub is_newline : TokenKind → Bool
is_newline kind.Newline = true
is_newline _ = false

-- the place after a line whose Newline is this many tokens on, or after the last line
abbrev pub end_by : Option ℕ → ℕ → ℕ → ℕ
end_by (Some on) from all = from + on + 1
end_by None from all = all

-- the place after the line that begins at a token: after its Newline, or at the end of the tokens
unfoldable pub line_end : List Token → ℕ → ℕ
line_end tokens from = end_by (position (λ token. is_newline token.kind) (drop from tokens)) from (length tokens)

-- a directive of no known name
abbrev pub is_other : Directive → Bool
is_other directive.Other = true
is_other _ = false

-- a token is a directive of no known name
abbrev pub is_unknown : TokenKind → Bool
is_unknown (kind.Directive directive) = is_other directive
is_unknown _ = false

-- an unknown directive is anywhere on the line
unfoldable pub has_unknown : List Token → ℕ → Bool
has_unknown tokens from = list_any (λ token. is_unknown token.kind) (slice_range tokens from (line_end tokens from))

-- a statement takes the whole line; it ends on its line, since no reader takes a Newline
abbrev pub whole : List Token → Statement × ℕ → ℕ → Read Statement
whole tokens read end = if ends_at tokens read.1 then Ok (read.0, end) else Err Syntax

-- the statement of a line without an unknown directive
unfoldable pub known_at : List ℕ → List Token → ℕ → Read Statement
known_at source tokens from = do
  read ← statement_from source tokens from
  whole tokens read (line_end tokens from)

-- the statement of a line and the place after the line, or the line's fault
unfoldable pub statement_at : List ℕ → List Token → ℕ → Read Statement
statement_at source tokens from = if has_unknown tokens from then Err UnknownDirective else known_at source tokens from
