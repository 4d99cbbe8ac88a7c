-- The faults of statements that need no value: which is the first of a source (choice of this profile, where the Pico SDK manual,
-- section 3.3, says no more than that they are faults).
--   statement_fault   what is wrong with a statement, after what comes before it and before the lines after it
--   after             what comes before the next line
--   first_fault       the first fault of lines
use Rattle.std.specs.Prelude.{◌≡◌, ℕ, ◌+◌, ◌==◌, nat_le, not, Bool, true, false, if◌then◌else◌, List, [], ◌∷◌, ◌++◌, length, Option, Some, None, Result, Ok, Err}
use Rattle.std.specs.Borrow.{Bor}
use Rattle.std.specs.List.{list_any}
use Rattle.std.specs.Str.{bytes_eq}
use Rattle.pio_statement.specs.declared.fault.StatementKind.{StatementKind}
use Rattle.pio_statement.specs.declared.fault.StatementKind.TheVariants as statement_kind
use Rattle.pio_statement.specs.declared.instruction.Suffix.{Suffix}
use Rattle.pio_statement.specs.declared.instruction.Suffix.TheVariants as suffix
use Rattle.pio_statement.specs.declared.statement.Code.{Code}
use Rattle.pio_statement.specs.declared.statement.Code.TheVariants as code
use Rattle.pio_statement.specs.declared.statement.Statement.{Statement}
use Rattle.pio_statement.specs.declared.statement.Statement.TheVariants as statement
use Rattle.pio_assemble.specs.declared.before.Before.{Before}
use Rattle.pio_assemble.specs.declared.fault.LineFault.{LineFault}
use Rattle.pio_assemble.specs.declared.fault.SourceKind.{SourceKind}
use Rattle.pio_assemble.specs.declared.fault.SourceKind.TheVariants.{Syntax, Outside, Twice, Late, Duplicate, TooLong, SideMissing, SideUnasked, EmptyProgram, Directive, Many, WrapPlace, TooDeep, Ambiguous}
use Rattle.pio_assemble.specs.declared.line.SourceLine.{SourceLine}
use Rattle.pio_assemble.specs.Answers.{SourceRefusal}
use Rattle.pio_assemble.specs.Lines.{has_word, word_count}

-- the beginning of a source
abbrev pub nothing_before : Before
nothing_before = record { programs = []; names = []; symbols = 0; words = 0; origin = false; side_set = None; wrap_target = false; wrap = false }

-- a fault, where there is cause
abbrev pub fault_if : Bool → SourceKind → Option SourceKind
fault_if true kind = Some kind
fault_if false kind = None

-- the first fault of two
infixr 20 ◌<|>◌
abbrev pub ◌<|>◌ : Option SourceKind → Option SourceKind → Option SourceKind
(Some kind) <|> other = Some kind
None <|> other = other

-- no program has begun
abbrev pub outside : Before → Option SourceKind
outside b = fault_if (length b.programs == 0) Outside

-- one of these has the name already
abbrev pub is_among : List (List ℕ) → List ℕ → Bool
is_among names name = list_any (bytes_eq name) names

-- one name more, unless it is among them
abbrev pub with_name : List (List ℕ) → List ℕ → List (List ℕ)
with_name names name = if is_among names name then names else names ++ name ∷ []

-- a name that one of these has already
abbrev pub duplicate : List (List ℕ) → List ℕ → Option SourceKind
duplicate names name = fault_if (is_among names name) (Duplicate name)

-- a symbol of its program: at most 1,024 in a file
abbrev pub symbol_fault : Before → List ℕ → Option SourceKind
symbol_fault b name = duplicate b.names name <|> fault_if (nat_le 1024 b.symbols) Many

-- an instruction says `side`
abbrev pub has_side : Suffix → Bool
has_side suffix.None = false
has_side (suffix.Side side) = true
has_side (suffix.Delay delay) = false
has_side (suffix.SideDelay side delay) = true
has_side (suffix.DelaySide delay side) = true

-- `side` is asked for by a `.side_set` without `opt`, and is right under one alone
abbrev pub side_fault : Option Bool → Bool → Option SourceKind
side_fault None said = fault_if said SideUnasked
side_fault (Some opt) true = None
side_fault (Some true) false = None
side_fault (Some false) false = Some SideMissing

-- a program has at most 32 words
abbrev pub room_fault : Before → Option SourceKind
room_fault b = fault_if (nat_le 32 b.words) TooLong

-- a word has room, and an instruction says `side` as it is asked for
abbrev pub code_fault : Before → Code → Option SourceKind
code_fault b (code.Word value) = room_fault b
code_fault b (code.Instruction i) = room_fault b <|> side_fault b.side_set (has_side i.suffix)

-- code after a label, where there is some
abbrev pub some_code_fault : Before → Option Code → Option SourceKind
some_code_fault b None = None
some_code_fault b (Some c) = code_fault b c

-- there is a `.side_set`
abbrev pub is_set : Option Bool → Bool
is_set None = false
is_set (Some opt) = true

-- a program that begins: at most 64 in a file, each with a word
abbrev pub program_fault : Before → Bool → List ℕ → Option SourceKind
program_fault b more name =
    duplicate b.programs name <|> fault_if (nat_le 64 (length b.programs)) Many <|> fault_if (not more) EmptyProgram

-- What is wrong with a statement; `more` says whether a word of its program comes after it.
unfoldable pub statement_fault : Before → Bool → Statement → Option SourceKind
statement_fault b more statement.Nothing = None
statement_fault b more statement.LangOpt = None
statement_fault b more (statement.PioVersion version) = None
statement_fault b more (statement.Program name) = program_fault b more name
statement_fault b more (statement.Define public name value) = symbol_fault b name
statement_fault b more (statement.Origin address) = outside b <|> fault_if b.origin Twice
statement_fault b more (statement.SideSet bits opt pindirs) =
    outside b <|> fault_if (is_set b.side_set) Twice <|> fault_if (nat_le 1 b.words) Late
statement_fault b more statement.WrapTarget = outside b <|> fault_if b.wrap_target Twice <|> fault_if (not more) WrapPlace
statement_fault b more statement.Wrap = outside b <|> fault_if b.wrap Twice <|> fault_if (b.words == 0) WrapPlace
statement_fault b more (statement.Label public name c) = outside b <|> symbol_fault b name <|> some_code_fault b c
statement_fault b more (statement.Code c) = outside b <|> code_fault b c

-- a program that begins has nothing before it
abbrev pub program_after : Before → List ℕ → Before
program_after b name = record { programs = with_name b.programs name; names = []; symbols = b.symbols; words = 0; origin = false; side_set = None; wrap_target = false; wrap = false }

-- one symbol more
abbrev pub symbol_after : Before → List ℕ → Before
symbol_after b name = record b { names = with_name b.names name; symbols = b.symbols + 1 }

-- so many words more
abbrev pub words_after : Before → ℕ → Before
words_after b count = record b { words = b.words + count }

-- what comes before the line after a statement
unfoldable pub after : Before → Statement → Before
after b (statement.Program name) = program_after b name
after b (statement.Define public name value) = symbol_after b name
after b (statement.Origin address) = record b { origin = true }
after b (statement.SideSet bits opt pindirs) = record b { side_set = Some opt }
after b statement.WrapTarget = record b { wrap_target = true }
after b statement.Wrap = record b { wrap = true }
after b (statement.Label public name c) = words_after (symbol_after b name) (word_count c)
after b (statement.Code c) = words_after b 1
after b _ = b

-- a line that is no statement
abbrev pub kind_of : StatementKind → SourceKind
kind_of statement_kind.Directive = Directive
kind_of statement_kind.Syntax = Syntax
kind_of statement_kind.TooDeep = TooDeep
kind_of statement_kind.Ambiguous = Ambiguous

-- what is wrong with a line
abbrev pub line_fault : Before → Bool → Result Statement StatementKind → Option SourceKind
line_fault b more (Ok s) = statement_fault b more s
line_fault b more (Err kind) = Some (kind_of kind)

-- the statement that was returned of a line is the line's
abbrev pub IsStatement : Result (Bor Statement) LineFault → Result Statement StatementKind → Type 0
IsStatement (Ok s) reading = reading ≡ Ok s.now
IsStatement (Err fault) reading = Unit {0}

-- what comes before the next line; after a fault nothing is asked
abbrev pub after_line : Before → Result Statement StatementKind → Before
after_line b (Ok s) = after b s
after_line b (Err kind) = b

-- a fault on a line, or what is found after it
abbrev pub fault_or : ℕ → Option SourceKind → Option SourceRefusal → Option SourceRefusal
fault_or number (Some kind) rest = Some (record { line = number; kind = kind })
fault_or number None rest = rest

-- the first fault of lines, by the least line
unfoldable pub first_fault : Before → List SourceLine → Option SourceRefusal
first_fault b [] = None
first_fault b (l ∷ lines) =
    fault_or l.number (line_fault b (has_word lines) l.reading) (first_fault (after_line b l.reading) lines)
