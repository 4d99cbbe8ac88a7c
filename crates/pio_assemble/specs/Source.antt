-- What a source means: its programs, or its first fault in one order (Pico SDK manual, section 3.3; the faults and their order are
-- choices of this profile).
--   scope_from       the symbols of lines, up to where the next program begins
--   programs_from    the programs of lines, after a program as far as it is read
--   reads_source     the programs of a source, or its first fault: a byte that is no token's comes before any statement's fault, and
--                    that before any fault of a value
use Rattle.std.specs.Prelude.{◌≢◌, ℕ, ◌+◌, min, if◌then◌else◌, is_some, List, [], ◌∷◌, ◌++◌, Option, Some, None, Result, Ok, Err}
use Rattle.pio_lex.specs.declared.fault.LexKind.{LexKind}
use Rattle.pio_lex.specs.declared.fault.LexKind.TheVariants as lex_kind
use Rattle.pio_lex.specs.declared.fault.LexFault.{LexFault}
use Rattle.pio_lex.specs.declared.fault.LexFault.TheVariants as lex_fault
use Rattle.pio_lex.specs.declared.token.Token.{Token}
use Rattle.pio_lex.specs.Fault.{LexRefusal}
use Rattle.pio_lex.specs.Reading.{reading_of}
use Rattle.pio_expr.specs.declared.symbol.Symbol.{Symbol}
use Rattle.pio_expr.specs.declared.symbol.Symbol.TheVariants as symbol
use Rattle.pio_expr.specs.Values.{Scope, Found, found_in, present, no_symbols, with_symbol, begun as with_program}
use Rattle.pio_statement.specs.declared.fault.StatementKind.{StatementKind}
use Rattle.pio_statement.specs.declared.statement.Statement.{Statement}
use Rattle.pio_statement.specs.declared.statement.Statement.TheVariants as statement
use Rattle.pio_assemble.specs.declared.fault.SourceKind.{SourceKind}
use Rattle.pio_assemble.specs.declared.fault.SourceKind.TheVariants.{BadByte, BadNumber, OpenComment, OpenBlock}
use Rattle.pio_assemble.specs.declared.fault.SourceFault.{SourceFault}
use Rattle.pio_assemble.specs.declared.fault.SourceFault.TheVariants as source_fault
use Rattle.pio_assemble.specs.declared.line.SourceLine.{SourceLine}
use Rattle.answers.specs.Answers.{◌>>=◌}
use Rattle.pio_assemble.specs.Answers.{SourceRefusal, at_line}
use Rattle.pio_assemble.specs.Checks.{nothing_before, first_fault}
use Rattle.pio_assemble.specs.Drafts.{Draft, begun, drafted, finished}
use Rattle.pio_assemble.specs.Lines.{lines_of, word_count}
use Rattle.pio_assemble.specs.Program.{Assembled}

-- the name of the program that begins on a line, if one does
abbrev pub program_by : Statement → Option (List ℕ)
program_by (statement.Program name) = Some name
program_by _ = None

-- the same of a line; one that is no statement begins none
abbrev pub program_on : Result Statement StatementKind → Option (List ℕ)
program_on (Ok s) = program_by s
program_on (Err kind) = None

-- a symbol more, unless there is one of its name
abbrev pub with_new_by : Found → Scope → List ℕ → Symbol → Scope
with_new_by (Some found) scope name is = scope
with_new_by None scope name is = with_symbol scope name is

-- a symbol more: after the globals, or after those of the program, once one has begun
abbrev pub with_new : Scope → List ℕ → Symbol → Scope
with_new scope name is = with_new_by (found_in 0 (present scope scope.program) name) scope name is

-- the symbol of a statement, with so many words of its program before it
abbrev pub symbol_by : ℕ → Statement → Option (List ℕ × Symbol)
symbol_by words (statement.Define public name items) = Some (name, symbol.Define items)
symbol_by words (statement.Label public name code) = Some (name, symbol.Label words)
symbol_by words _ = None

-- the same of a line; one that is no statement has none
abbrev pub symbol_on : ℕ → Result Statement StatementKind → Option (List ℕ × Symbol)
symbol_on words (Ok s) = symbol_by words s
symbol_on words (Err kind) = None

-- a symbol more, where there is one
abbrev pub with_some : Scope → Option (List ℕ × Symbol) → Scope
with_some scope (Some s) = with_new scope s.0 s.1
with_some scope None = scope

-- the symbols after a statement, with so many words of its program before it
abbrev pub scope_by : Scope → ℕ → Statement → Scope
scope_by scope words s = with_some scope (symbol_by words s)

-- the same of a line
abbrev pub scope_on : Scope → ℕ → Result Statement StatementKind → Scope
scope_on scope words reading = with_some scope (symbol_on words reading)

-- more words of a program, which has at most 32
abbrev pub more_words : ℕ → ℕ → ℕ
more_words words count = min (words + count) 32

-- the words after a statement
abbrev pub words_by : ℕ → Statement → ℕ
words_by words (statement.Label public name code) = more_words words (word_count code)
words_by words (statement.Code code) = more_words words 1
words_by words _ = words

-- the same of a line
abbrev pub words_on : ℕ → Result Statement StatementKind → ℕ
words_on words (Ok s) = words_by words s
words_on words (Err kind) = words

-- a scope with the symbols of lines, up to where the next program begins, with so many words before them
unfoldable pub scope_from : List SourceLine → Scope → ℕ → Scope
scope_from [] scope words = scope
scope_from (l ∷ lines) scope words =
    if is_some (program_on l.reading) then scope else scope_from lines (scope_on scope words l.reading) (words_on words l.reading)

-- the lines after the one where the next program begins
unfoldable pub after_program : List SourceLine → List SourceLine
after_program [] = []
after_program (l ∷ lines) = if is_some (program_on l.reading) then lines else after_program lines

-- names are looked up among the globals, and in a program first among its own symbols, also those after
abbrev pub global_scope : List SourceLine → Scope
global_scope lines = scope_from lines no_symbols 0

-- the scope of the program that begins before these lines
abbrev pub program_scope : Scope → List SourceLine → Scope
program_scope scope lines = scope_from lines (with_program scope) 0

-- a program before those after it
abbrev pub with_programs : List Assembled → Result (List Assembled) SourceRefusal → Result (List Assembled) SourceRefusal
with_programs first (Ok others) = Ok (first ++ others)
with_programs first (Err refusal) = Err refusal

-- what a line adds to a program; one that is no statement adds nothing
abbrev pub drafted_on : Scope → Draft → Result Statement StatementKind → Result Draft SourceKind
drafted_on scope d (Ok s) = drafted scope d s
drafted_on scope d (Err kind) = Ok d

-- the programs of a line and those after it: where one begins, the one before it is finished
abbrev pub programs_by : (Scope → Draft → Result (List Assembled) SourceRefusal) → Scope → Draft → SourceLine → List SourceLine → Option (List ℕ) → Result (List Assembled) SourceRefusal
programs_by rest scope d l lines (Some name) = with_programs (finished d) (rest (program_scope scope lines) (begun (Some name)))
programs_by rest scope d l lines None = at_line l.number (drafted_on scope d l.reading) >>= rest scope

-- the programs of lines, after a program as far as it is read
unfoldable pub programs_from : List SourceLine → Scope → Draft → Result (List Assembled) SourceRefusal
programs_from [] scope d = Ok (finished d)
programs_from (l ∷ lines) scope d = programs_by (programs_from lines) scope d l lines (program_on l.reading)

-- the programs of lines whose statements have no fault
abbrev pub programs_of : List SourceLine → Result (List Assembled) SourceRefusal
programs_of lines = programs_from lines (global_scope lines) (begun None)

-- the programs, unless a statement has a fault
abbrev pub unless_fault : Option SourceRefusal → List SourceLine → Result (List Assembled) SourceRefusal
unless_fault (Some refusal) lines = Err refusal
unless_fault None lines = programs_of lines

-- the programs of lines, or their first fault
abbrev pub reads_lines : List SourceLine → Result (List Assembled) SourceRefusal
reads_lines lines = unless_fault (first_fault nothing_before lines) lines

-- a fault of the tokens
abbrev pub kind_of_lex : LexKind → SourceKind
kind_of_lex lex_kind.BadByte = BadByte
kind_of_lex lex_kind.BadNumber = BadNumber
kind_of_lex lex_kind.OpenComment = OpenComment
kind_of_lex lex_kind.OpenBlock = OpenBlock

-- the fault of it
abbrev pub told_of_lex : LexFault → SourceFault
told_of_lex (lex_fault.Found line kind) = source_fault.Found line (kind_of_lex kind)
told_of_lex lex_fault.Memory = source_fault.Memory

-- the programs of a source that is read as these tokens
abbrev pub reads_tokens : List ℕ → Result (List Token) LexRefusal → Result (List Assembled) SourceRefusal
reads_tokens source (Ok tokens) = reads_lines (lines_of source tokens)
reads_tokens source (Err refusal) = Err (record { line = refusal.line; kind = kind_of_lex refusal.kind })

-- the programs of a source, or its first fault
unfoldable pub reads_source : List ℕ → Result (List Assembled) SourceRefusal
reads_source source = reads_tokens source (reading_of source)

-- a name differs from each of these
abbrev pub Differs : List ℕ → List (List ℕ) → Type 0
Differs name [] = Unit {0}
Differs name (other ∷ others) = (other ≢ name) × Differs name others

-- no name is twice
abbrev pub AreDistinct : List (List ℕ) → Type 0
AreDistinct [] = Unit {0}
AreDistinct (name ∷ names) = Differs name names × AreDistinct names
