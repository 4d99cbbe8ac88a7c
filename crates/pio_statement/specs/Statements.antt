-- The statements of one line (Pico SDK manual, section 3.3). E is an expression, NAME a name that is no keyword.
use Rattle.std.specs.Prelude.{ℕ, ◌+◌, List, Bool, true, false, if◌then◌else◌, Option, Some, None, Ok, Err}
use Rattle.pio_lex.specs.declared.directive.Directive.{Directive}
use Rattle.pio_lex.specs.declared.directive.Directive.TheVariants as directive
use Rattle.pio_lex.specs.declared.keyword.Keyword.{Keyword}
use Rattle.pio_lex.specs.declared.keyword.Keyword.TheVariants as keyword
use Rattle.pio_lex.specs.declared.token.TokenKind.{TokenKind}
use Rattle.pio_lex.specs.declared.token.TokenKind.TheVariants as kind
use Rattle.pio_lex.specs.declared.token.Token.{Token}
use Rattle.pio_statement.specs.declared.fault.StatementKind.TheVariants.{Syntax}
use Rattle.pio_statement.specs.declared.statement.Code.{Code}
use Rattle.pio_statement.specs.declared.statement.Statement.{Statement}
use Rattle.pio_statement.specs.declared.statement.Statement.TheVariants as statement
use Rattle.answers.specs.Answers.{◌>>=◌}
use Rattle.pio_statement.specs.Answer.{Read}
use Rattle.pio_statement.specs.Tokens.{kind_at, ends_at, past_colon, name_at, expression}
use Rattle.pio_statement.specs.Operands.{opt_at, pindirs_at, public_at}
use Rattle.pio_statement.specs.Instructions.{code_at, word_at}

-- `.program NAME`
unfoldable pub program_at : List ℕ → List Token → ℕ → Read Statement
program_at source tokens at = do
  name ← name_at source tokens at
  Ok (statement.Program name.0, name.1)

-- `.define [public] NAME E`
unfoldable pub define_at : List ℕ → List Token → ℕ → Read Statement
define_at source tokens at = do
  let public = public_at tokens at
  name ← name_at source tokens public.1
  value ← expression source tokens name.1
  Ok (statement.Define public.0 name.0 value.0, value.1)

-- `.origin E`
unfoldable pub origin_at : List ℕ → List Token → ℕ → Read Statement
origin_at source tokens at = do
  address ← expression source tokens at
  Ok (statement.Origin address.0, address.1)

-- `.side_set E [opt] [pindirs]`
unfoldable pub side_set_at : List ℕ → List Token → ℕ → Read Statement
side_set_at source tokens at = do
  bits ← expression source tokens at
  let opt = opt_at tokens bits.1
  let pindirs = pindirs_at tokens opt.1
  Ok (statement.SideSet bits.0 opt.0 pindirs.0, pindirs.1)

-- `.pio_version E`
unfoldable pub pio_version_at : List ℕ → List Token → ℕ → Read Statement
pio_version_at source tokens at = do
  version ← expression source tokens at
  Ok (statement.PioVersion version.0, version.1)

-- a word of code without a label
unfoldable pub lone_word_at : List ℕ → List Token → ℕ → Read Statement
lone_word_at source tokens at = do
  word ← word_at source tokens at
  Ok (statement.Code word.0, word.1)

-- a directive's statement, after its name; the rest of a line after `.lang_opt` is no token, and an unknown directive is
-- told of the whole line
abbrev pub directive_at : List ℕ → List Token → Directive → ℕ → Read Statement
directive_at source tokens directive.Program at = program_at source tokens at
directive_at source tokens directive.Define at = define_at source tokens at
directive_at source tokens directive.Origin at = origin_at source tokens at
directive_at source tokens directive.SideSet at = side_set_at source tokens at
directive_at source tokens directive.WrapTarget at = Ok (statement.WrapTarget, at)
directive_at source tokens directive.Wrap at = Ok (statement.Wrap, at)
directive_at source tokens directive.Word at = lone_word_at source tokens at
directive_at source tokens directive.LangOpt at = Ok (statement.LangOpt, at)
directive_at source tokens directive.PioVersion at = pio_version_at source tokens at
directive_at source tokens directive.Other at = Err Syntax

-- an instruction or a word, unless the line ends
abbrev pub some_code : List ℕ → List Token → ℕ → Read (Option Code)
some_code source tokens at = do
  code ← code_at source tokens at
  Ok (Some code.0, code.1)

-- what comes after a label: code, or nothing
unfoldable pub labelled_at : List ℕ → List Token → ℕ → Read (Option Code)
labelled_at source tokens at = if ends_at tokens at then Ok (None, at) else some_code source tokens at

-- `NAME :`, alone or with code after it
unfoldable pub label_at : List ℕ → List Token → Bool → ℕ → Read Statement
label_at source tokens public at = do
  name ← name_at source tokens at
  after ← past_colon tokens name.1
  code ← labelled_at source tokens after
  Ok (statement.Label public name.0 code.0, code.1)

-- code without a label
unfoldable pub lone_code_at : List ℕ → List Token → ℕ → Read Statement
lone_code_at source tokens at = do
  code ← code_at source tokens at
  Ok (statement.Code code.0, code.1)

-- `public` before a label, or an instruction
abbrev pub worded_at : List ℕ → List Token → Keyword → ℕ → Read Statement
worded_at source tokens keyword.Public at = label_at source tokens true (at + 1)
worded_at source tokens _ at = lone_code_at source tokens at

-- a statement by its first token
abbrev pub statement_by : List ℕ → List Token → Option TokenKind → ℕ → Read Statement
statement_by source tokens None at = Ok (statement.Nothing, at)
statement_by source tokens (Some kind.Newline) at = Ok (statement.Nothing, at)
statement_by source tokens (Some (kind.Directive directive)) at = directive_at source tokens directive (at + 1)
statement_by source tokens (Some (kind.Keyword word)) at = worded_at source tokens word at
statement_by source tokens (Some kind.Name) at = label_at source tokens false at
statement_by source tokens _ at = Err Syntax

-- what is at a place, whatever comes after it
unfoldable pub statement_from : List ℕ → List Token → ℕ → Read Statement
statement_from source tokens at = statement_by source tokens (kind_at tokens at) at
