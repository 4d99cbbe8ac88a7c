-- The lines of a source, each with what it says (Pico SDK manual, section 3.3).
--   lines_of       the lines of the tokens, in order
--   has_word       a word is on lines, before the next program begins
use Rattle.std.specs.Prelude.{ℕ, zero, suc, Bool, true, false, List, [], ◌∷◌, length, Option, Some, None, Result, Ok, Err, slice_get}
use Rattle.pio_lex.specs.declared.token.Token.{Token}
use Rattle.pio_statement.specs.declared.fault.StatementKind.{StatementKind}
use Rattle.pio_statement.specs.declared.statement.Code.{Code}
use Rattle.pio_statement.specs.declared.statement.Statement.{Statement}
use Rattle.pio_statement.specs.declared.statement.Statement.TheVariants as statement
use Rattle.pio_statement.specs.Answer.{Read}
use Rattle.pio_statement.specs.Lines.{line_end, statement_at}
use Rattle.pio_assemble.specs.declared.line.SourceLine.{SourceLine}

-- a statement without the place after it
abbrev pub said : Read Statement → Result Statement StatementKind
said (Ok read) = Ok read.0
said (Err kind) = Err kind

-- the line that begins at a token, whose line's number it has
abbrev pub line_at : List ℕ → List Token → ℕ → Token → SourceLine
line_at source tokens from first = record { number = first.line; reading = said (statement_at source tokens from) }

-- the line that begins at this token, and the lines after its end; where there is no token, there is no line
abbrev pub lines_at : (ℕ → List SourceLine) → List ℕ → List Token → ℕ → Option Token → List SourceLine
lines_at rest source tokens from (Some first) = line_at source tokens from first ∷ rest (line_end tokens from)
lines_at rest source tokens from None = []

-- the lines from a token on, at most so many
unfoldable pub lines_from : ℕ → List ℕ → List Token → ℕ → List SourceLine
lines_from zero source tokens from = []
lines_from (suc more) source tokens from = lines_at (lines_from more source tokens) source tokens from (slice_get tokens from)

-- all lines: a line has a token at least, so there are no more lines than tokens
abbrev pub lines_of : List ℕ → List Token → List SourceLine
lines_of source tokens = lines_from (length tokens) source tokens 0

-- how many words code after a label gives
abbrev pub word_count : Option Code → ℕ
word_count (Some code) = 1
word_count None = 0

-- a statement gives a word, or the lines after it do; a program that begins ends the one before
abbrev pub word_by : Statement → Bool → Bool
word_by (statement.Program name) more = false
word_by (statement.Label public name (Some code)) more = true
word_by (statement.Code code) more = true
word_by _ more = more

-- the same of a line; one that is no statement counts as a word of the program in which it is
abbrev pub word_on : Result Statement StatementKind → Bool → Bool
word_on (Ok s) more = word_by s more
word_on (Err kind) more = true

-- a word is on these lines, before the next program begins
unfoldable pub has_word : List SourceLine → Bool
has_word [] = false
has_word (l ∷ lines) = word_on l.reading (has_word lines)
