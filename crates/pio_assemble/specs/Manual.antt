-- The programs of lines whose statements have no fault, in the words of the manual (Pico SDK manual, section 3.3): each word is
-- appended, each symbol is added, a program with a name is one whatever it has, and an instruction has the `side` that it says.
--   statements_of         the statements of lines
--   manual_scope_from     the symbols of statements, up to where the next program begins
--   manual_drafted        what a statement adds to a program
--   manual_programs_of    the programs of lines
use Rattle.std.specs.Prelude.{ℕ, ◌+◌, ◌-◌, if◌then◌else◌, is_some, unwrap_or, List, [], ◌∷◌, ◌++◌, length, Option, Some, None, Result, Ok, Err}
use Rattle.pio_encode.specs.declared.act.Act.{Act}
use Rattle.pio_encode.specs.declared.op.Op.{Op}
use Rattle.pio_encode.specs.declared.rule.SideRule.{SideRule}
use Rattle.pio_encode.specs.Word.{word_of}
use Rattle.pio_expr.specs.declared.symbol.Symbol.TheVariants as symbol
use Rattle.pio_expr.specs.Values.{Scope, no_symbols, with_symbol, begun as with_program}
use Rattle.pio_statement.specs.declared.fault.StatementKind.{StatementKind}
use Rattle.pio_statement.specs.declared.instruction.Instruction.{Instruction}
use Rattle.pio_statement.specs.declared.statement.Code.{Code}
use Rattle.pio_statement.specs.declared.statement.Code.TheVariants as code
use Rattle.pio_statement.specs.declared.statement.Statement.{Statement}
use Rattle.pio_statement.specs.declared.statement.Statement.TheVariants as statement
use Rattle.pio_assemble.specs.declared.fault.SourceKind.{SourceKind}
use Rattle.pio_assemble.specs.declared.instruction.Extras.{Extras}
use Rattle.pio_assemble.specs.declared.line.SourceLine.{SourceLine}
use Rattle.pio_assemble.specs.declared.quantity.Quantity.TheVariants as quantity
use Rattle.answers.specs.Answers.{◌>>=◌}
use Rattle.pio_assemble.specs.Answers.{SourceRefusal, at_line}
use Rattle.pio_assemble.specs.Checks.{kind_of}
use Rattle.pio_assemble.specs.Drafts.{Draft, begun, defined, labelled, ruled}
use Rattle.pio_assemble.specs.Lines.{word_count}
use Rattle.pio_assemble.specs.Operands.{number_in, act_of, suffix_of}
use Rattle.pio_assemble.specs.Program.{Assembled}
use Rattle.pio_assemble.specs.Source.{program_by, with_programs}

-- a statement with the number of its line (choice of this profile)
pub record NumberedStatement : Type 0 where
  pub line : ℕ
  pub says : Statement

-- the statement of a line; a line that is none is a fault (choice of this profile)
abbrev pub statement_on : Result Statement StatementKind → Result Statement SourceKind
statement_on (Ok s) = Ok s
statement_on (Err kind) = Err (kind_of kind)

-- the statements of lines, in order (Pico SDK manual, section 3.3)
unfoldable pub statements_of : List SourceLine → Result (List NumberedStatement) SourceRefusal
statements_of [] = Ok []
statements_of (l ∷ lines) = do
  s ← at_line l.number (statement_on l.reading)
  others ← statements_of lines
  Ok (record { line = l.number; says = s } ∷ others)

-- the symbols after a statement, with so many words of its program before it: a define or a label is one more (Pico SDK manual, section 3.3)
abbrev pub manual_scope_by : Scope → ℕ → Statement → Scope
manual_scope_by scope words (statement.Define public name items) = with_symbol scope name (symbol.Define items)
manual_scope_by scope words (statement.Label public name code) = with_symbol scope name (symbol.Label words)
manual_scope_by scope words _ = scope

-- the words after a statement: code is one word more, after a label too (Pico SDK manual, section 3.3)
abbrev pub manual_words_by : ℕ → Statement → ℕ
manual_words_by words (statement.Label public name code) = words + word_count code
manual_words_by words (statement.Code code) = words + 1
manual_words_by words _ = words

-- a scope with the symbols of statements, up to where the next program begins, with so many words before them (Pico SDK manual, section 3.3)
unfoldable pub manual_scope_from : List NumberedStatement → Scope → ℕ → Scope
manual_scope_from [] scope words = scope
manual_scope_from (s ∷ statements) scope words =
    if is_some (program_by s.says) then scope else manual_scope_from statements (manual_scope_by scope words s.says) (manual_words_by words s.says)

-- an instruction has the side-set value that it says, or none, and its delay (Pico SDK manual, section 3.3)
abbrev pub manual_op_of : Act → Extras → Op
manual_op_of act extras = record { side = extras.side; delay = extras.delay; act = act }

-- the word of an instruction (Pico SDK manual, section 3.3)
unfoldable pub manual_word_of_instruction : Scope → SideRule → Instruction → Result ℕ SourceKind
manual_word_of_instruction scope rule i = do
  act ← act_of scope i.form
  extras ← suffix_of scope rule i.suffix
  Ok (word_of (manual_op_of act extras) rule)

-- the word of code (Pico SDK manual, section 3.3)
abbrev pub manual_word_of_code : Scope → SideRule → Code → Result ℕ SourceKind
manual_word_of_code scope rule (code.Word value) = number_in scope quantity.Word 0 65535 value
manual_word_of_code scope rule (code.Instruction i) = manual_word_of_instruction scope rule i

-- code: its word is appended (Pico SDK manual, section 3.3)
abbrev pub manual_coded : Scope → Draft → Code → Result Draft SourceKind
manual_coded scope d code = do
  word ← manual_word_of_code scope d.side code
  Ok (record d { words = d.words ++ word ∷ [] })

-- code after a label, where there is some (Pico SDK manual, section 3.3)
abbrev pub manual_some_coded : Scope → Draft → Option Code → Result Draft SourceKind
manual_some_coded scope d None = Ok d
manual_some_coded scope d (Some code) = manual_coded scope d code

-- what a statement adds: `.wrap_target` is the next word, `.wrap` the last word so far (Pico SDK manual, section 3.3)
unfoldable pub manual_drafted : Scope → Draft → Statement → Result Draft SourceKind
manual_drafted scope d (statement.Define public name items) = defined scope d public name
manual_drafted scope d (statement.Origin address) = do
  origin ← number_in scope quantity.Origin 0 31 address
  Ok (record d { origin = Some origin })
manual_drafted scope d (statement.SideSet bits opt pindirs) = ruled scope d bits opt pindirs
manual_drafted scope d statement.WrapTarget = Ok (record d { wrap_bottom = length d.words })
manual_drafted scope d statement.Wrap = Ok (record d { wrap_top = Some (length d.words - 1) })
manual_drafted scope d (statement.PioVersion version) = do
  number ← number_in scope quantity.PioVersion 0 0 version
  Ok d
manual_drafted scope d (statement.Label public name code) = manual_some_coded scope (labelled d public name) code
manual_drafted scope d (statement.Code code) = manual_coded scope d code
manual_drafted scope d _ = Ok d

-- the program after its last line: it wraps after its last word where it has no `.wrap` (Pico SDK manual, section 3.3)
abbrev pub manual_program_of : List ℕ → Draft → Assembled
manual_program_of name d = record {
  name = name;
  words = d.words;
  origin = d.origin;
  side = d.side;
  wrap_bottom = d.wrap_bottom;
  wrap_top = unwrap_or d.wrap_top (length d.words - 1);
  symbols = d.symbols;
}

-- the program of this name; before the first `.program` there is none (Pico SDK manual, section 3.3)
abbrev pub manual_finished_by : Option (List ℕ) → Draft → List Assembled
manual_finished_by None d = []
manual_finished_by (Some name) d = manual_program_of name d ∷ []

-- the program, if it has a name (Pico SDK manual, section 3.3)
abbrev pub manual_finished : Draft → List Assembled
manual_finished d = manual_finished_by d.name d

-- the programs of a statement and those after it: where one begins, the one before it ends (Pico SDK manual, section 3.3)
abbrev pub manual_programs_by : (Scope → Draft → Result (List Assembled) SourceRefusal) → Scope → Draft → NumberedStatement → List NumberedStatement → Option (List ℕ) → Result (List Assembled) SourceRefusal
manual_programs_by rest scope d s statements (Some name) =
    with_programs (manual_finished d) (rest (manual_scope_from statements (with_program scope) 0) (begun (Some name)))
manual_programs_by rest scope d s statements None = at_line s.line (manual_drafted scope d s.says) >>= rest scope

-- the programs of statements, after a program as far as it is read (Pico SDK manual, section 3.3)
unfoldable pub manual_programs_from : List NumberedStatement → Scope → Draft → Result (List Assembled) SourceRefusal
manual_programs_from [] scope d = Ok (manual_finished d)
manual_programs_from (s ∷ statements) scope d = manual_programs_by (manual_programs_from statements) scope d s statements (program_by s.says)

-- the programs of lines (Pico SDK manual, section 3.3)
abbrev pub manual_programs_of : List SourceLine → Result (List Assembled) SourceRefusal
manual_programs_of lines = do
  statements ← statements_of lines
  manual_programs_from statements (manual_scope_from statements no_symbols 0) (begun None)
