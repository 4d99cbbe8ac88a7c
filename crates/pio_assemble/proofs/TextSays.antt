-- What the tokens of a line of code say, by computing the grammar on them.
--   Says             pieces, with any tail after them, are one line: an instruction of a form
--   the forms, each by its operands
use Rattle.std.proofs.Common.{◌≡◌, ℕ, Bool, true, false, List, [], ◌∷◌, ◌++◌, length, Some, Ok, refl}
use Rattle.pio_lex.specs.declared.keyword.Keyword.{Keyword}
use Rattle.pio_lex.specs.declared.keyword.Keyword.TheVariants as keyword
use Rattle.pio_lex.specs.declared.directive.Directive.TheVariants as directive
use Rattle.pio_lex.specs.declared.token.TokenKind.TheVariants as kind
use Rattle.pio_lex.specs.declared.piece.Piece.{Piece}
use Rattle.pio_lex.specs.declared.piece.Piece.TheVariants as piece
use Rattle.pio_encode.specs.declared.act.Condition.{Condition}
use Rattle.pio_encode.specs.declared.act.Condition.TheVariants as condition
use Rattle.pio_encode.specs.declared.act.WaitSource.{WaitSource}
use Rattle.pio_encode.specs.declared.act.WaitSource.TheVariants as wait_source
use Rattle.pio_encode.specs.declared.act.InSource.{InSource}
use Rattle.pio_encode.specs.declared.act.InSource.TheVariants as in_source
use Rattle.pio_encode.specs.declared.act.OutDestination.{OutDestination}
use Rattle.pio_encode.specs.declared.act.OutDestination.TheVariants as out_destination
use Rattle.pio_encode.specs.declared.act.MovDestination.{MovDestination}
use Rattle.pio_encode.specs.declared.act.MovDestination.TheVariants as mov_destination
use Rattle.pio_encode.specs.declared.act.MovOperation.{MovOperation}
use Rattle.pio_encode.specs.declared.act.MovOperation.TheVariants as mov_operation
use Rattle.pio_encode.specs.declared.act.MovSource.{MovSource}
use Rattle.pio_encode.specs.declared.act.MovSource.TheVariants as mov_source
use Rattle.pio_encode.specs.declared.act.SetDestination.{SetDestination}
use Rattle.pio_encode.specs.declared.act.SetDestination.TheVariants as set_destination
use Rattle.pio_encode.specs.Text.{in_source_text, out_destination_text, mov_destination_text, mov_source_text, set_destination_text, wait_source_text}
use Rattle.pio_encode.specs.Word.{bit}
use Rattle.pio_expr.specs.Grammar.{value_read, chain, readers, expression_at}
use Rattle.pio_expr.specs.Marks.{mark_at}
use Rattle.pio_statement.specs.declared.instruction.Form.{Form}
use Rattle.pio_statement.specs.declared.instruction.Form.TheVariants as form
use Rattle.pio_statement.specs.declared.instruction.IrqMode.{IrqMode}
use Rattle.pio_statement.specs.declared.instruction.IrqMode.TheVariants as irq_mode
use Rattle.pio_statement.specs.declared.statement.Code.{Code}
use Rattle.pio_statement.specs.declared.statement.Code.TheVariants as code
use Rattle.pio_statement.specs.declared.statement.Statement.TheVariants as statement
use Rattle.pio_statement.specs.Tokens.{kind_at, ends_at, past_comma, past_close, keyword_at, past_open, past_side, expression}
use Rattle.pio_statement.specs.Operands.{wait_source_at, in_source_at, out_destination_at, mov_destination_at, mov_destination_of, mov_source_at, mov_source_of, set_destination_at, irq_mode_at, blocking_at, if_full_at, if_empty_at, relative_at, operation_at}
use Rattle.pio_statement.specs.Conditions.{inverted_at, differs_at, after_x, after_y, condition_at}
use Rattle.pio_statement.specs.Forms.{jmp_at, wait_at, in_at, out_at, push_at, pull_at, mov_at, irq_at, set_at, form_at}
use Rattle.pio_statement.specs.Instructions.{delay_at, side_first, delay_first, suffix_at, instruction_at, word_at, code_at}
use Rattle.pio_statement.specs.Statements.{lone_word_at, lone_code_at, statement_from}
use Rattle.pio_statement.specs.Lines.{line_end, has_unknown, known_at, statement_at}
use Rattle.pio_assemble.specs.declared.line.SourceLine.{SourceLine}
use Rattle.pio_assemble.specs.Lines.{lines_from, lines_of}
use Rattle.pio_assemble.proofs.TextRows.{tokens_from}
use Rattle.pio_assemble.proofs.TextNumbers.{number}
use Rattle.pio_assemble.proofs.TextTails.{lone, Tail, bare, sided, delayed, both, tail_pieces, tail_suffix}

-- what the grammar is computed by
pub grammar : Unit {0}
unfolding lines_from line_end has_unknown known_at statement_at statement_from lone_word_at lone_code_at code_at word_at instruction_at form_at jmp_at wait_at in_at out_at push_at pull_at mov_at irq_at set_at condition_at inverted_at differs_at after_x after_y wait_source_at in_source_at out_destination_at mov_destination_at mov_source_at set_destination_at irq_mode_at blocking_at if_full_at if_empty_at relative_at operation_at suffix_at side_first delay_first delay_at kind_at ends_at past_comma past_close keyword_at past_open past_side expression expression_at readers chain value_read mark_at
grammar = tt

-- the first line, with this code
abbrev pub line_of : Code → List SourceLine
line_of c = record { number = 1; reading = Ok (statement.Code c) } ∷ []

-- pieces with a tail after them are one line: an instruction of a form
abbrev SaysWith : List Piece → Form → Tail → Type 0
SaysWith pieces f t = (source : List ℕ) → lines_of source (tokens_from source 0 (pieces ++ tail_pieces t)) ≡ line_of (code.Instruction (record { form = f; suffix = tail_suffix t }))

-- the same with any tail
pub record Says (pieces : List Piece) (f : Form) : Type 0 where
  on_bare : SaysWith pieces f bare
  on_sided : (v : ℕ) → SaysWith pieces f (sided v)
  on_delayed : (d : ℕ) → SaysWith pieces f (delayed d)
  on_both : (v d : ℕ) → SaysWith pieces f (both v d)

-- whatever the tail is
pub says_with : (pieces : List Piece) (f : Form) → Says pieces f → (t : Tail) → SaysWith pieces f t
says_with pieces f s bare = s.on_bare
says_with pieces f s (sided v) = s.on_sided v
says_with pieces f s (delayed d) = s.on_delayed d
says_with pieces f s (both v d) = s.on_both v d

-- a keyword of so many bytes
abbrev pub word : Keyword → ℕ → Piece
word k n = piece.Token (kind.Keyword k) n

-- one blank
abbrev pub blank : Piece
blank = piece.Gap 1

-- a comma
abbrev pub comma : Piece
comma = piece.Token kind.Comma 1

-- a JMP's condition after its blank
abbrev pub condition_pieces : Condition → List Piece
condition_pieces condition.Always = []
condition_pieces condition.XZero = blank ∷ piece.Token kind.Bang 1 ∷ word keyword.X 1 ∷ comma ∷ []
condition_pieces condition.XDecrement = blank ∷ word keyword.X 1 ∷ piece.Token kind.MinusMinus 2 ∷ comma ∷ []
condition_pieces condition.YZero = blank ∷ piece.Token kind.Bang 1 ∷ word keyword.Y 1 ∷ comma ∷ []
condition_pieces condition.YDecrement = blank ∷ word keyword.Y 1 ∷ piece.Token kind.MinusMinus 2 ∷ comma ∷ []
condition_pieces condition.XNotY = blank ∷ word keyword.X 1 ∷ piece.Token kind.NotEqual 2 ∷ word keyword.Y 1 ∷ comma ∷ []
condition_pieces condition.Pin = blank ∷ word keyword.Pin 3 ∷ comma ∷ []
condition_pieces condition.OsrNotEmpty = blank ∷ piece.Token kind.Bang 1 ∷ word keyword.Osre 4 ∷ comma ∷ []

-- a JMP
abbrev pub jmp_pieces : Condition → ℕ → List Piece
jmp_pieces c n = word keyword.Jmp 3 ∷ condition_pieces c ++ blank ∷ number n ∷ []

pub jmp_says : (c : Condition) (n : ℕ) → Says (jmp_pieces c n) (form.Jmp c (lone n))
unfolding grammar
jmp_says condition.Always n = record { on_bare = λ source. refl; on_sided = λ v source. refl; on_delayed = λ d source. refl; on_both = λ v d source. refl }
jmp_says condition.XZero n = record { on_bare = λ source. refl; on_sided = λ v source. refl; on_delayed = λ d source. refl; on_both = λ v d source. refl }
jmp_says condition.XDecrement n = record { on_bare = λ source. refl; on_sided = λ v source. refl; on_delayed = λ d source. refl; on_both = λ v d source. refl }
jmp_says condition.YZero n = record { on_bare = λ source. refl; on_sided = λ v source. refl; on_delayed = λ d source. refl; on_both = λ v d source. refl }
jmp_says condition.YDecrement n = record { on_bare = λ source. refl; on_sided = λ v source. refl; on_delayed = λ d source. refl; on_both = λ v d source. refl }
jmp_says condition.XNotY n = record { on_bare = λ source. refl; on_sided = λ v source. refl; on_delayed = λ d source. refl; on_both = λ v d source. refl }
jmp_says condition.Pin n = record { on_bare = λ source. refl; on_sided = λ v source. refl; on_delayed = λ d source. refl; on_both = λ v d source. refl }
jmp_says condition.OsrNotEmpty n = record { on_bare = λ source. refl; on_sided = λ v source. refl; on_delayed = λ d source. refl; on_both = λ v d source. refl }

-- `rel`, where it is said
abbrev pub rel_pieces : Bool → List Piece
rel_pieces true = blank ∷ word keyword.Rel 3 ∷ []
rel_pieces false = []

-- an IRQ flag after its blank
abbrev pub flag_pieces : Bool → ℕ → List Piece
flag_pieces rel n = blank ∷ number n ∷ rel_pieces rel

-- the word of what a WAIT looks at
abbrev pub wait_word : WaitSource → Keyword
wait_word wait_source.Gpio = keyword.Gpio
wait_word wait_source.Pin = keyword.Pin
wait_word wait_source.Irq = keyword.Irq

-- a WAIT up to its index
abbrev pub wait_pieces : Bool → WaitSource → List Piece
wait_pieces polarity from = word keyword.Wait 4 ∷ blank ∷ number (bit polarity) ∷ blank ∷ word (wait_word from) (length (wait_source_text from)) ∷ []

pub wait_gpio_says : (polarity : Bool) (n : ℕ) → Says (wait_pieces polarity wait_source.Gpio ++ blank ∷ number n ∷ []) (form.Wait (lone (bit polarity)) wait_source.Gpio (lone n) false)
unfolding grammar
wait_gpio_says polarity n = record { on_bare = λ source. refl; on_sided = λ v source. refl; on_delayed = λ d source. refl; on_both = λ v d source. refl }

pub wait_pin_says : (polarity : Bool) (n : ℕ) → Says (wait_pieces polarity wait_source.Pin ++ blank ∷ number n ∷ []) (form.Wait (lone (bit polarity)) wait_source.Pin (lone n) false)
unfolding grammar
wait_pin_says polarity n = record { on_bare = λ source. refl; on_sided = λ v source. refl; on_delayed = λ d source. refl; on_both = λ v d source. refl }

pub wait_irq_says : (polarity rel : Bool) (n : ℕ) → Says (wait_pieces polarity wait_source.Irq ++ flag_pieces rel n) (form.Wait (lone (bit polarity)) wait_source.Irq (lone n) rel)
unfolding grammar
wait_irq_says polarity true n = record { on_bare = λ source. refl; on_sided = λ v source. refl; on_delayed = λ d source. refl; on_both = λ v d source. refl }
wait_irq_says polarity false n = record { on_bare = λ source. refl; on_sided = λ v source. refl; on_delayed = λ d source. refl; on_both = λ v d source. refl }

-- the word of an IN's source
abbrev pub in_word : InSource → Keyword
in_word in_source.Pins = keyword.Pins
in_word in_source.X = keyword.X
in_word in_source.Y = keyword.Y
in_word in_source.Null = keyword.Null
in_word in_source.Isr = keyword.Isr
in_word in_source.Osr = keyword.Osr

-- an IN
abbrev pub in_pieces : InSource → ℕ → List Piece
in_pieces operand n = word keyword.In 2 ∷ blank ∷ word (in_word operand) (length (in_source_text operand)) ∷ comma ∷ blank ∷ number n ∷ []

pub in_says : (operand : InSource) (n : ℕ) → Says (in_pieces operand n) (form.In operand (lone n))
unfolding grammar
in_says in_source.Pins n = record { on_bare = λ source. refl; on_sided = λ v source. refl; on_delayed = λ d source. refl; on_both = λ v d source. refl }
in_says in_source.X n = record { on_bare = λ source. refl; on_sided = λ v source. refl; on_delayed = λ d source. refl; on_both = λ v d source. refl }
in_says in_source.Y n = record { on_bare = λ source. refl; on_sided = λ v source. refl; on_delayed = λ d source. refl; on_both = λ v d source. refl }
in_says in_source.Null n = record { on_bare = λ source. refl; on_sided = λ v source. refl; on_delayed = λ d source. refl; on_both = λ v d source. refl }
in_says in_source.Isr n = record { on_bare = λ source. refl; on_sided = λ v source. refl; on_delayed = λ d source. refl; on_both = λ v d source. refl }
in_says in_source.Osr n = record { on_bare = λ source. refl; on_sided = λ v source. refl; on_delayed = λ d source. refl; on_both = λ v d source. refl }

-- the word of an OUT's destination
abbrev pub out_word : OutDestination → Keyword
out_word out_destination.Pins = keyword.Pins
out_word out_destination.X = keyword.X
out_word out_destination.Y = keyword.Y
out_word out_destination.Null = keyword.Null
out_word out_destination.Pindirs = keyword.Pindirs
out_word out_destination.Pc = keyword.Pc
out_word out_destination.Isr = keyword.Isr
out_word out_destination.Exec = keyword.Exec

-- an OUT
abbrev pub out_pieces : OutDestination → ℕ → List Piece
out_pieces operand n = word keyword.Out 3 ∷ blank ∷ word (out_word operand) (length (out_destination_text operand)) ∷ comma ∷ blank ∷ number n ∷ []

pub out_says : (operand : OutDestination) (n : ℕ) → Says (out_pieces operand n) (form.Out operand (lone n))
unfolding grammar
out_says out_destination.Pins n = record { on_bare = λ source. refl; on_sided = λ v source. refl; on_delayed = λ d source. refl; on_both = λ v d source. refl }
out_says out_destination.X n = record { on_bare = λ source. refl; on_sided = λ v source. refl; on_delayed = λ d source. refl; on_both = λ v d source. refl }
out_says out_destination.Y n = record { on_bare = λ source. refl; on_sided = λ v source. refl; on_delayed = λ d source. refl; on_both = λ v d source. refl }
out_says out_destination.Null n = record { on_bare = λ source. refl; on_sided = λ v source. refl; on_delayed = λ d source. refl; on_both = λ v d source. refl }
out_says out_destination.Pindirs n = record { on_bare = λ source. refl; on_sided = λ v source. refl; on_delayed = λ d source. refl; on_both = λ v d source. refl }
out_says out_destination.Pc n = record { on_bare = λ source. refl; on_sided = λ v source. refl; on_delayed = λ d source. refl; on_both = λ v d source. refl }
out_says out_destination.Isr n = record { on_bare = λ source. refl; on_sided = λ v source. refl; on_delayed = λ d source. refl; on_both = λ v d source. refl }
out_says out_destination.Exec n = record { on_bare = λ source. refl; on_sided = λ v source. refl; on_delayed = λ d source. refl; on_both = λ v d source. refl }

-- the word of a SET's destination
abbrev pub set_word : SetDestination → Keyword
set_word set_destination.Pins = keyword.Pins
set_word set_destination.X = keyword.X
set_word set_destination.Y = keyword.Y
set_word set_destination.Pindirs = keyword.Pindirs

-- a SET
abbrev pub set_pieces : SetDestination → ℕ → List Piece
set_pieces operand n = word keyword.Set 3 ∷ blank ∷ word (set_word operand) (length (set_destination_text operand)) ∷ comma ∷ blank ∷ number n ∷ []

pub set_says : (operand : SetDestination) (n : ℕ) → Says (set_pieces operand n) (form.Set operand (lone n))
unfolding grammar
set_says set_destination.Pins n = record { on_bare = λ source. refl; on_sided = λ v source. refl; on_delayed = λ d source. refl; on_both = λ v d source. refl }
set_says set_destination.X n = record { on_bare = λ source. refl; on_sided = λ v source. refl; on_delayed = λ d source. refl; on_both = λ v d source. refl }
set_says set_destination.Y n = record { on_bare = λ source. refl; on_sided = λ v source. refl; on_delayed = λ d source. refl; on_both = λ v d source. refl }
set_says set_destination.Pindirs n = record { on_bare = λ source. refl; on_sided = λ v source. refl; on_delayed = λ d source. refl; on_both = λ v d source. refl }

-- whether a PUSH or a PULL waits
abbrev pub block_pieces : Bool → List Piece
block_pieces true = blank ∷ word keyword.Block 5 ∷ []
block_pieces false = blank ∷ word keyword.NoBlock 7 ∷ []

-- a PUSH
abbrev pub push_pieces : Bool → Bool → List Piece
push_pieces true block = word keyword.Push 4 ∷ blank ∷ word keyword.IfFull 6 ∷ block_pieces block
push_pieces false block = word keyword.Push 4 ∷ block_pieces block

pub push_says : (if_full block : Bool) → Says (push_pieces if_full block) (form.Push if_full block)
unfolding grammar
push_says true true = record { on_bare = λ source. refl; on_sided = λ v source. refl; on_delayed = λ d source. refl; on_both = λ v d source. refl }
push_says true false = record { on_bare = λ source. refl; on_sided = λ v source. refl; on_delayed = λ d source. refl; on_both = λ v d source. refl }
push_says false true = record { on_bare = λ source. refl; on_sided = λ v source. refl; on_delayed = λ d source. refl; on_both = λ v d source. refl }
push_says false false = record { on_bare = λ source. refl; on_sided = λ v source. refl; on_delayed = λ d source. refl; on_both = λ v d source. refl }

-- a PULL
abbrev pub pull_pieces : Bool → Bool → List Piece
pull_pieces true block = word keyword.Pull 4 ∷ blank ∷ word keyword.IfEmpty 7 ∷ block_pieces block
pull_pieces false block = word keyword.Pull 4 ∷ block_pieces block

pub pull_says : (if_empty block : Bool) → Says (pull_pieces if_empty block) (form.Pull if_empty block)
unfolding grammar
pull_says true true = record { on_bare = λ source. refl; on_sided = λ v source. refl; on_delayed = λ d source. refl; on_both = λ v d source. refl }
pull_says true false = record { on_bare = λ source. refl; on_sided = λ v source. refl; on_delayed = λ d source. refl; on_both = λ v d source. refl }
pull_says false true = record { on_bare = λ source. refl; on_sided = λ v source. refl; on_delayed = λ d source. refl; on_both = λ v d source. refl }
pull_says false false = record { on_bare = λ source. refl; on_sided = λ v source. refl; on_delayed = λ d source. refl; on_both = λ v d source. refl }

pub nop_says : Says (word keyword.Nop 3 ∷ []) form.Nop
unfolding grammar
nop_says = record { on_bare = λ source. refl; on_sided = λ v source. refl; on_delayed = λ d source. refl; on_both = λ v d source. refl }

-- the word of a MOV's destination
abbrev pub mov_destination_word : MovDestination → Keyword
mov_destination_word mov_destination.Pins = keyword.Pins
mov_destination_word mov_destination.X = keyword.X
mov_destination_word mov_destination.Y = keyword.Y
mov_destination_word mov_destination.Exec = keyword.Exec
mov_destination_word mov_destination.Pc = keyword.Pc
mov_destination_word mov_destination.Isr = keyword.Isr
mov_destination_word mov_destination.Osr = keyword.Osr

-- the word of a MOV's source
abbrev pub mov_source_word : MovSource → Keyword
mov_source_word mov_source.Pins = keyword.Pins
mov_source_word mov_source.X = keyword.X
mov_source_word mov_source.Y = keyword.Y
mov_source_word mov_source.Null = keyword.Null
mov_source_word mov_source.Status = keyword.Status
mov_source_word mov_source.Isr = keyword.Isr
mov_source_word mov_source.Osr = keyword.Osr

mov_destination_is : (d : MovDestination) → mov_destination_of (mov_destination_word d) ≡ Some d
mov_destination_is mov_destination.Pins = refl
mov_destination_is mov_destination.X = refl
mov_destination_is mov_destination.Y = refl
mov_destination_is mov_destination.Exec = refl
mov_destination_is mov_destination.Pc = refl
mov_destination_is mov_destination.Isr = refl
mov_destination_is mov_destination.Osr = refl

mov_source_is : (s : MovSource) → mov_source_of (mov_source_word s) ≡ Some s
mov_source_is mov_source.Pins = refl
mov_source_is mov_source.X = refl
mov_source_is mov_source.Y = refl
mov_source_is mov_source.Null = refl
mov_source_is mov_source.Status = refl
mov_source_is mov_source.Isr = refl
mov_source_is mov_source.Osr = refl

-- the sign before a MOV's source
abbrev pub operation_pieces : MovOperation → List Piece
operation_pieces mov_operation.Plain = []
operation_pieces mov_operation.Invert = piece.Token kind.Bang 1 ∷ []
operation_pieces mov_operation.Reverse = piece.Token kind.DoubleColon 2 ∷ []

-- a MOV's source with its sign, after its blank
abbrev pub mov_operand_pieces : MovOperation → MovSource → List Piece
mov_operand_pieces o s = blank ∷ operation_pieces o ++ word (mov_source_word s) (length (mov_source_text s)) ∷ []

-- a MOV
abbrev pub mov_pieces : MovDestination → MovOperation → MovSource → List Piece
mov_pieces d o s = word keyword.Mov 3 ∷ blank ∷ word (mov_destination_word d) (length (mov_destination_text d)) ∷ comma ∷ mov_operand_pieces o s

pub mov_says : (d : MovDestination) (o : MovOperation) (s : MovSource) → Says (mov_pieces d o s) (form.Mov d o s)
unfolding grammar
mov_says d mov_operation.Plain s = record { on_bare = λ source. rw (mov_destination_is d, mov_source_is s) refl; on_sided = λ v source. rw (mov_destination_is d, mov_source_is s) refl; on_delayed = λ n source. rw (mov_destination_is d, mov_source_is s) refl; on_both = λ v n source. rw (mov_destination_is d, mov_source_is s) refl }
mov_says d mov_operation.Invert s = record { on_bare = λ source. rw (mov_destination_is d, mov_source_is s) refl; on_sided = λ v source. rw (mov_destination_is d, mov_source_is s) refl; on_delayed = λ n source. rw (mov_destination_is d, mov_source_is s) refl; on_both = λ v n source. rw (mov_destination_is d, mov_source_is s) refl }
mov_says d mov_operation.Reverse s = record { on_bare = λ source. rw (mov_destination_is d, mov_source_is s) refl; on_sided = λ v source. rw (mov_destination_is d, mov_source_is s) refl; on_delayed = λ n source. rw (mov_destination_is d, mov_source_is s) refl; on_both = λ v n source. rw (mov_destination_is d, mov_source_is s) refl }

-- the word of what an IRQ does
abbrev pub mode_word : IrqMode → Keyword
mode_word irq_mode.Raise = keyword.NoWait
mode_word irq_mode.RaiseAndWait = keyword.Wait
mode_word irq_mode.Lower = keyword.Clear

-- how many bytes that word has
abbrev pub mode_size : IrqMode → ℕ
mode_size irq_mode.Raise = 6
mode_size irq_mode.RaiseAndWait = 4
mode_size irq_mode.Lower = 5

-- an IRQ
abbrev pub irq_pieces : IrqMode → Bool → ℕ → List Piece
irq_pieces mode rel n = word keyword.Irq 3 ∷ blank ∷ word (mode_word mode) (mode_size mode) ∷ flag_pieces rel n

pub irq_says : (mode : IrqMode) (rel : Bool) (n : ℕ) → Says (irq_pieces mode rel n) (form.Irq mode (lone n) rel)
unfolding grammar
irq_says irq_mode.Raise true n = record { on_bare = λ source. refl; on_sided = λ v source. refl; on_delayed = λ d source. refl; on_both = λ v d source. refl }
irq_says irq_mode.Raise false n = record { on_bare = λ source. refl; on_sided = λ v source. refl; on_delayed = λ d source. refl; on_both = λ v d source. refl }
irq_says irq_mode.RaiseAndWait true n = record { on_bare = λ source. refl; on_sided = λ v source. refl; on_delayed = λ d source. refl; on_both = λ v d source. refl }
irq_says irq_mode.RaiseAndWait false n = record { on_bare = λ source. refl; on_sided = λ v source. refl; on_delayed = λ d source. refl; on_both = λ v d source. refl }
irq_says irq_mode.Lower true n = record { on_bare = λ source. refl; on_sided = λ v source. refl; on_delayed = λ d source. refl; on_both = λ v d source. refl }
irq_says irq_mode.Lower false n = record { on_bare = λ source. refl; on_sided = λ v source. refl; on_delayed = λ d source. refl; on_both = λ v d source. refl }

-- a word as a number
abbrev pub number_pieces : ℕ → List Piece
number_pieces w = piece.Token (kind.Directive directive.Word) 5 ∷ blank ∷ piece.Token (kind.Number w) 6 ∷ []

pub number_says : (w : ℕ) (source : List ℕ) → lines_of source (tokens_from source 0 (number_pieces w)) ≡ line_of (code.Word (lone w))
unfolding grammar
number_says w source = refl
