-- The pieces of the texts of instructions.
--   EndsWell       a word is one token, whatever comes after it
--   the rows of the forms, each by its operands
use Rattle.std.proofs.Common.{ℕ, ◌/◌, ◌%◌, ◌^◌, ◌<◌, ◌==◌, Bool, true, false, List, [], ◌∷◌, ◌++◌, length, drop, refl, sym, subst, append_assoc, if◌then◌else◌, arith}
use Rattle.std.specs.Prelude.{codes, decimal}
use Rattle.std.specs.Fmt.{digits}
use Rattle.std.proofs.Math.Seq.{drop-append_seam}
use Rattle.pio_lex.specs.declared.keyword.Keyword.{Keyword}
use Rattle.pio_lex.specs.declared.keyword.Keyword.TheVariants as keyword
use Rattle.pio_lex.specs.declared.token.TokenKind.TheVariants as kind
use Rattle.pio_lex.specs.declared.piece.Piece.{Piece}
use Rattle.pio_lex.specs.declared.piece.Piece.TheVariants as piece
use Rattle.pio_lex.specs.Words.{row_of, keywords, keyword_of}
use Rattle.pio_lex.specs.Gaps.{gap_at, opens_block}
use Rattle.pio_lex.specs.Numbers.{word_number}
use Rattle.pio_lex.specs.Spellings.{mark_at, token_at}
use Rattle.pio_lex.specs.Pieces.{piece_at}
use Rattle.pio_encode.specs.declared.act.Act.{Act}
use Rattle.pio_encode.specs.declared.act.Act.TheVariants as act
use Rattle.pio_encode.specs.declared.act.Condition.{Condition}
use Rattle.pio_encode.specs.declared.act.Condition.TheVariants as condition
use Rattle.pio_encode.specs.declared.act.WaitSource.TheVariants as wait_source
use Rattle.pio_encode.specs.declared.act.InSource.{InSource}
use Rattle.pio_encode.specs.declared.act.InSource.TheVariants as in_source
use Rattle.pio_encode.specs.declared.act.OutDestination.{OutDestination}
use Rattle.pio_encode.specs.declared.act.OutDestination.TheVariants as out_destination
use Rattle.pio_encode.specs.declared.act.MovDestination.{MovDestination}
use Rattle.pio_encode.specs.declared.act.MovDestination.TheVariants as mov_destination
use Rattle.pio_encode.specs.declared.act.MovOperation.{MovOperation}
use Rattle.pio_encode.specs.declared.act.MovOperation.TheVariants as mov_operation
use Rattle.pio_encode.specs.declared.act.MovSource.{MovSource}
use Rattle.pio_encode.specs.declared.act.MovSource.TheVariants as mov_source
use Rattle.pio_encode.specs.declared.act.SetDestination.{SetDestination}
use Rattle.pio_encode.specs.declared.act.SetDestination.TheVariants as set_destination
use Rattle.pio_encode.specs.Text.{mov_destination_text, mov_operation_text, mov_source_text, act_text}
use Rattle.pio_statement.specs.declared.instruction.IrqMode.{IrqMode}
use Rattle.pio_statement.specs.declared.instruction.IrqMode.TheVariants as irq_mode
use Rattle.pio_assemble.proofs.TextRows.{AreRow}
use Rattle.pio_assemble.proofs.TextNumbers.{Follow, nothing, blank, bracket, after, number, IsFirst, spaced}
use Rattle.pio_assemble.proofs.TextSays.{word, jmp_pieces, rel_pieces, flag_pieces, wait_pieces, in_pieces, out_pieces, set_pieces, push_pieces, pull_pieces, mov_source_word, mov_operand_pieces, mov_pieces, irq_pieces}

-- what the tokens are computed by
pub lexing : Unit {0}
unfolding digits piece_at gap_at opens_block token_at mark_at word_number keyword_of keywords row_of
lexing = tt

-- a word is one token, and so are a blank and a `!` before it
record EndsWell (text : List ℕ) (k : Keyword) : Type 0 where
  gap : (rest : List ℕ) → IsFirst (32 ∷ text ++ rest) (piece.Gap 1)
  bang : (rest : List ℕ) → IsFirst (33 ∷ text ++ rest) (piece.Token kind.Bang 1)
  at_end : IsFirst (text ++ []) (word k (length text))
  before_blank : (rest : List ℕ) → IsFirst (text ++ 32 ∷ rest) (word k (length text))
  before_bracket : (rest : List ℕ) → IsFirst (text ++ 93 ∷ rest) (word k (length text))

-- a word before what comes after it
worded : (text : List ℕ) (k : Keyword) → EndsWell text k → (f : Follow) (pieces : List Piece) → AreRow (after f) pieces → AreRow (text ++ after f) (word k (length text) ∷ pieces)
worded text k e f pieces row = by f row where
  on : (rest : List ℕ) → AreRow rest pieces → AreRow (drop (length text) (text ++ rest)) pieces
  on rest r = subst (λ (t : List ℕ). AreRow t pieces) (sym (drop-append_seam text rest)) r

  by : (g : Follow) → AreRow (after g) pieces → AreRow (text ++ after g) (word k (length text) ∷ pieces)
  by nothing r = (e.at_end.0, e.at_end.1, on [] r)
  by (blank rest) r = ((e.before_blank rest).0, (e.before_blank rest).1, on (32 ∷ rest) r)
  by (bracket rest) r = ((e.before_bracket rest).0, (e.before_bracket rest).1, on (93 ∷ rest) r)

rel_ends : EndsWell (codes "rel") keyword.Rel
unfolding lexing
rel_ends = record { gap = λ rest. (refl, refl); bang = λ rest. (refl, refl); at_end = (refl, refl); before_blank = λ rest. (refl, refl); before_bracket = λ rest. (refl, refl) }

block_ends : EndsWell (codes "block") keyword.Block
unfolding lexing
block_ends = record { gap = λ rest. (refl, refl); bang = λ rest. (refl, refl); at_end = (refl, refl); before_blank = λ rest. (refl, refl); before_bracket = λ rest. (refl, refl) }

noblock_ends : EndsWell (codes "noblock") keyword.NoBlock
unfolding lexing
noblock_ends = record { gap = λ rest. (refl, refl); bang = λ rest. (refl, refl); at_end = (refl, refl); before_blank = λ rest. (refl, refl); before_bracket = λ rest. (refl, refl) }

nop_ends : EndsWell (codes "nop") keyword.Nop
unfolding lexing
nop_ends = record { gap = λ rest. (refl, refl); bang = λ rest. (refl, refl); at_end = (refl, refl); before_blank = λ rest. (refl, refl); before_bracket = λ rest. (refl, refl) }

mov_source_ends : (s : MovSource) → EndsWell (mov_source_text s) (mov_source_word s)
unfolding lexing
mov_source_ends mov_source.Pins = record { gap = λ rest. (refl, refl); bang = λ rest. (refl, refl); at_end = (refl, refl); before_blank = λ rest. (refl, refl); before_bracket = λ rest. (refl, refl) }
mov_source_ends mov_source.X = record { gap = λ rest. (refl, refl); bang = λ rest. (refl, refl); at_end = (refl, refl); before_blank = λ rest. (refl, refl); before_bracket = λ rest. (refl, refl) }
mov_source_ends mov_source.Y = record { gap = λ rest. (refl, refl); bang = λ rest. (refl, refl); at_end = (refl, refl); before_blank = λ rest. (refl, refl); before_bracket = λ rest. (refl, refl) }
mov_source_ends mov_source.Null = record { gap = λ rest. (refl, refl); bang = λ rest. (refl, refl); at_end = (refl, refl); before_blank = λ rest. (refl, refl); before_bracket = λ rest. (refl, refl) }
mov_source_ends mov_source.Status = record { gap = λ rest. (refl, refl); bang = λ rest. (refl, refl); at_end = (refl, refl); before_blank = λ rest. (refl, refl); before_bracket = λ rest. (refl, refl) }
mov_source_ends mov_source.Isr = record { gap = λ rest. (refl, refl); bang = λ rest. (refl, refl); at_end = (refl, refl); before_blank = λ rest. (refl, refl); before_bracket = λ rest. (refl, refl) }
mov_source_ends mov_source.Osr = record { gap = λ rest. (refl, refl); bang = λ rest. (refl, refl); at_end = (refl, refl); before_blank = λ rest. (refl, refl); before_bracket = λ rest. (refl, refl) }

-- the row of an instruction, before what comes after it
abbrev pub Rows : Act → List Piece → Type 0
Rows a pieces = (f : Follow) (rest : List Piece) → AreRow (after f) rest → AreRow (act_text a ++ after f) (pieces ++ rest)

pub jmp_row : (c : Condition) (n : ℕ) → n < 33 → Rows (act.Jmp c n) (jmp_pieces c n)
unfolding lexing act_text
jmp_row condition.Always n h f rest r = (refl, refl, spaced n h f rest r)
jmp_row condition.XZero n h f rest r = (refl, refl, (refl, refl, (refl, refl, (refl, refl, (refl, refl, spaced n h f rest r)))))
jmp_row condition.XDecrement n h f rest r = (refl, refl, (refl, refl, (refl, refl, (refl, refl, (refl, refl, spaced n h f rest r)))))
jmp_row condition.YZero n h f rest r = (refl, refl, (refl, refl, (refl, refl, (refl, refl, (refl, refl, spaced n h f rest r)))))
jmp_row condition.YDecrement n h f rest r = (refl, refl, (refl, refl, (refl, refl, (refl, refl, (refl, refl, spaced n h f rest r)))))
jmp_row condition.XNotY n h f rest r = (refl, refl, (refl, refl, (refl, refl, (refl, refl, (refl, refl, (refl, refl, spaced n h f rest r))))))
jmp_row condition.Pin n h f rest r = (refl, refl, (refl, refl, (refl, refl, (refl, refl, spaced n h f rest r))))
jmp_row condition.OsrNotEmpty n h f rest r = (refl, refl, (refl, refl, (refl, refl, (refl, refl, (refl, refl, spaced n h f rest r)))))

pub in_row : (operand : InSource) (n : ℕ) → n < 33 → Rows (act.In operand n) (in_pieces operand n)
unfolding lexing act_text
in_row in_source.Pins n h f rest r = (refl, refl, (refl, refl, (refl, refl, (refl, refl, spaced n h f rest r))))
in_row in_source.X n h f rest r = (refl, refl, (refl, refl, (refl, refl, (refl, refl, spaced n h f rest r))))
in_row in_source.Y n h f rest r = (refl, refl, (refl, refl, (refl, refl, (refl, refl, spaced n h f rest r))))
in_row in_source.Null n h f rest r = (refl, refl, (refl, refl, (refl, refl, (refl, refl, spaced n h f rest r))))
in_row in_source.Isr n h f rest r = (refl, refl, (refl, refl, (refl, refl, (refl, refl, spaced n h f rest r))))
in_row in_source.Osr n h f rest r = (refl, refl, (refl, refl, (refl, refl, (refl, refl, spaced n h f rest r))))

pub out_row : (operand : OutDestination) (n : ℕ) → n < 33 → Rows (act.Out operand n) (out_pieces operand n)
unfolding lexing act_text
out_row out_destination.Pins n h f rest r = (refl, refl, (refl, refl, (refl, refl, (refl, refl, spaced n h f rest r))))
out_row out_destination.X n h f rest r = (refl, refl, (refl, refl, (refl, refl, (refl, refl, spaced n h f rest r))))
out_row out_destination.Y n h f rest r = (refl, refl, (refl, refl, (refl, refl, (refl, refl, spaced n h f rest r))))
out_row out_destination.Null n h f rest r = (refl, refl, (refl, refl, (refl, refl, (refl, refl, spaced n h f rest r))))
out_row out_destination.Pindirs n h f rest r = (refl, refl, (refl, refl, (refl, refl, (refl, refl, spaced n h f rest r))))
out_row out_destination.Pc n h f rest r = (refl, refl, (refl, refl, (refl, refl, (refl, refl, spaced n h f rest r))))
out_row out_destination.Isr n h f rest r = (refl, refl, (refl, refl, (refl, refl, (refl, refl, spaced n h f rest r))))
out_row out_destination.Exec n h f rest r = (refl, refl, (refl, refl, (refl, refl, (refl, refl, spaced n h f rest r))))

pub set_row : (operand : SetDestination) (n : ℕ) → n < 33 → Rows (act.Set operand n) (set_pieces operand n)
unfolding lexing act_text
set_row set_destination.Pins n h f rest r = (refl, refl, (refl, refl, (refl, refl, (refl, refl, spaced n h f rest r))))
set_row set_destination.X n h f rest r = (refl, refl, (refl, refl, (refl, refl, (refl, refl, spaced n h f rest r))))
set_row set_destination.Y n h f rest r = (refl, refl, (refl, refl, (refl, refl, (refl, refl, spaced n h f rest r))))
set_row set_destination.Pindirs n h f rest r = (refl, refl, (refl, refl, (refl, refl, (refl, refl, spaced n h f rest r))))

pub push_row : (if_full block : Bool) → Rows (act.Push if_full block) (push_pieces if_full block)
unfolding lexing act_text
push_row true true f rest r = (refl, refl, (refl, refl, (refl, refl, (refl, refl, worded (codes "block") keyword.Block block_ends f rest r))))
push_row true false f rest r = (refl, refl, (refl, refl, (refl, refl, (refl, refl, worded (codes "noblock") keyword.NoBlock noblock_ends f rest r))))
push_row false true f rest r = (refl, refl, (refl, refl, worded (codes "block") keyword.Block block_ends f rest r))
push_row false false f rest r = (refl, refl, (refl, refl, worded (codes "noblock") keyword.NoBlock noblock_ends f rest r))

pub pull_row : (if_empty block : Bool) → Rows (act.Pull if_empty block) (pull_pieces if_empty block)
unfolding lexing act_text
pull_row true true f rest r = (refl, refl, (refl, refl, (refl, refl, (refl, refl, worded (codes "block") keyword.Block block_ends f rest r))))
pull_row true false f rest r = (refl, refl, (refl, refl, (refl, refl, (refl, refl, worded (codes "noblock") keyword.NoBlock noblock_ends f rest r))))
pull_row false true f rest r = (refl, refl, (refl, refl, worded (codes "block") keyword.Block block_ends f rest r))
pull_row false false f rest r = (refl, refl, (refl, refl, worded (codes "noblock") keyword.NoBlock noblock_ends f rest r))

-- `nop`
pub nop_row : (f : Follow) (rest : List Piece) → AreRow (after f) rest → AreRow (codes "nop" ++ after f) (word keyword.Nop 3 ∷ rest)
nop_row f rest r = worded (codes "nop") keyword.Nop nop_ends f rest r

-- an IRQ flag
flag_row : (rel : Bool) (n : ℕ) → n < 33 → (f : Follow) (rest : List Piece) → AreRow (after f) rest
    → AreRow (32 ∷ (decimal n ++ (if rel then codes " rel" else [])) ++ after f) (flag_pieces rel n ++ rest)
unfolding lexing
flag_row true n h f rest r =
    rw (append_assoc (decimal n) (codes " rel") (after f)) (spaced n h (blank (codes "rel" ++ after f)) (rel_pieces true ++ rest) (refl, refl, worded (codes "rel") keyword.Rel rel_ends f rest r))
flag_row false n h f rest r = rw (append_assoc (decimal n) [] (after f)) (spaced n h f rest r)

pub wait_gpio_row : (polarity : Bool) (n : ℕ) → n < 33 → Rows (act.Wait polarity wait_source.Gpio n) (wait_pieces polarity wait_source.Gpio ++ piece.Gap 1 ∷ number n ∷ [])
unfolding lexing act_text
wait_gpio_row true n h f rest r = (refl, refl, (refl, refl, (refl, refl, (refl, refl, (refl, refl, spaced n h f rest r)))))
wait_gpio_row false n h f rest r = (refl, refl, (refl, refl, (refl, refl, (refl, refl, (refl, refl, spaced n h f rest r)))))

pub wait_pin_row : (polarity : Bool) (n : ℕ) → n < 33 → Rows (act.Wait polarity wait_source.Pin n) (wait_pieces polarity wait_source.Pin ++ piece.Gap 1 ∷ number n ∷ [])
unfolding lexing act_text
wait_pin_row true n h f rest r = (refl, refl, (refl, refl, (refl, refl, (refl, refl, (refl, refl, spaced n h f rest r)))))
wait_pin_row false n h f rest r = (refl, refl, (refl, refl, (refl, refl, (refl, refl, (refl, refl, spaced n h f rest r)))))

pub wait_irq_row : (polarity : Bool) (i : ℕ) → Rows (act.Wait polarity wait_source.Irq i) (wait_pieces polarity wait_source.Irq ++ flag_pieces (i / 2 ^ 4 == 1) (i % 2 ^ 3))
unfolding lexing act_text
wait_irq_row true i f rest r = (refl, refl, (refl, refl, (refl, refl, (refl, refl, (refl, refl, flag_row (i / 2 ^ 4 == 1) (i % 2 ^ 3) (omega arith) f rest r)))))
wait_irq_row false i f rest r = (refl, refl, (refl, refl, (refl, refl, (refl, refl, (refl, refl, flag_row (i / 2 ^ 4 == 1) (i % 2 ^ 3) (omega arith) f rest r)))))

-- whether an IRQ lowers its flag, and whether it waits
abbrev pub clears : IrqMode → Bool
clears irq_mode.Raise = false
clears irq_mode.RaiseAndWait = false
clears irq_mode.Lower = true

abbrev pub waits : IrqMode → Bool
waits irq_mode.Raise = false
waits irq_mode.RaiseAndWait = true
waits irq_mode.Lower = false

pub irq_row : (mode : IrqMode) (i : ℕ) → Rows (act.Irq (clears mode) (waits mode) i) (irq_pieces mode (i / 2 ^ 4 == 1) (i % 2 ^ 3))
unfolding lexing act_text
irq_row irq_mode.Raise i f rest r = (refl, refl, (refl, refl, (refl, refl, flag_row (i / 2 ^ 4 == 1) (i % 2 ^ 3) (omega arith) f rest r)))
irq_row irq_mode.RaiseAndWait i f rest r = (refl, refl, (refl, refl, (refl, refl, flag_row (i / 2 ^ 4 == 1) (i % 2 ^ 3) (omega arith) f rest r)))
irq_row irq_mode.Lower i f rest r = (refl, refl, (refl, refl, (refl, refl, flag_row (i / 2 ^ 4 == 1) (i % 2 ^ 3) (omega arith) f rest r)))

-- the sign and the source of a MOV
mov_operand_row : (o : MovOperation) (s : MovSource) (f : Follow) (rest : List Piece) → AreRow (after f) rest → AreRow (32 ∷ (mov_operation_text o ++ mov_source_text s) ++ after f) (mov_operand_pieces o s ++ rest)
unfolding lexing
mov_operand_row mov_operation.Plain s f rest r =
    let e = mov_source_ends s in
    ((e.gap (after f)).0, (e.gap (after f)).1, worded (mov_source_text s) (mov_source_word s) e f rest r)
mov_operand_row mov_operation.Invert s f rest r =
    let e = mov_source_ends s in
    (refl, refl, ((e.bang (after f)).0, (e.bang (after f)).1, worded (mov_source_text s) (mov_source_word s) e f rest r))
mov_operand_row mov_operation.Reverse s f rest r =
    (refl, refl, (refl, refl, worded (mov_source_text s) (mov_source_word s) (mov_source_ends s) f rest r))

pub mov_row : (d : MovDestination) (o : MovOperation) (s : MovSource) (f : Follow) (rest : List Piece) → AreRow (after f) rest
    → AreRow ((codes "mov " ++ mov_destination_text d ++ codes ", " ++ mov_operation_text o ++ mov_source_text s) ++ after f) (mov_pieces d o s ++ rest)
unfolding lexing
mov_row mov_destination.Pins o s f rest r = (refl, refl, (refl, refl, (refl, refl, (refl, refl, mov_operand_row o s f rest r))))
mov_row mov_destination.X o s f rest r = (refl, refl, (refl, refl, (refl, refl, (refl, refl, mov_operand_row o s f rest r))))
mov_row mov_destination.Y o s f rest r = (refl, refl, (refl, refl, (refl, refl, (refl, refl, mov_operand_row o s f rest r))))
mov_row mov_destination.Exec o s f rest r = (refl, refl, (refl, refl, (refl, refl, (refl, refl, mov_operand_row o s f rest r))))
mov_row mov_destination.Pc o s f rest r = (refl, refl, (refl, refl, (refl, refl, (refl, refl, mov_operand_row o s f rest r))))
mov_row mov_destination.Isr o s f rest r = (refl, refl, (refl, refl, (refl, refl, (refl, refl, mov_operand_row o s f rest r))))
mov_row mov_destination.Osr o s f rest r = (refl, refl, (refl, refl, (refl, refl, (refl, refl, mov_operand_row o s f rest r))))
