-- The operands that are words (Pico SDK manual, section 3.3.6; RP2040 Datasheet, section 3.4): a table each.
--   operand      a word of a table
--   optional     a word of a table, which may be left out
use Rattle.std.specs.Prelude.{ℕ, ◌+◌, List, Bool, true, false, Option, Some, None, Ok, Err}
use Rattle.pio_lex.specs.declared.keyword.Keyword.{Keyword}
use Rattle.pio_lex.specs.declared.keyword.Keyword.TheVariants as keyword
use Rattle.pio_lex.specs.declared.token.TokenKind.{TokenKind}
use Rattle.pio_lex.specs.declared.token.TokenKind.TheVariants as kind
use Rattle.pio_lex.specs.declared.token.Token.{Token}
use Rattle.pio_encode.specs.declared.act.WaitSource.{WaitSource}
use Rattle.pio_encode.specs.declared.act.WaitSource.TheVariants as wait_source
use Rattle.pio_encode.specs.declared.act.InSource.{InSource}
use Rattle.pio_encode.specs.declared.act.InSource.TheVariants as in_source
use Rattle.pio_encode.specs.declared.act.OutDestination.{OutDestination}
use Rattle.pio_encode.specs.declared.act.OutDestination.TheVariants as out_destination
use Rattle.pio_encode.specs.declared.act.MovDestination.{MovDestination}
use Rattle.pio_encode.specs.declared.act.MovDestination.TheVariants as mov_destination
use Rattle.pio_encode.specs.declared.act.MovOperation.{MovOperation}
use Rattle.pio_encode.specs.declared.act.MovOperation.TheVariants.{Plain, Invert, Reverse}
use Rattle.pio_encode.specs.declared.act.MovSource.{MovSource}
use Rattle.pio_encode.specs.declared.act.MovSource.TheVariants as mov_source
use Rattle.pio_encode.specs.declared.act.SetDestination.{SetDestination}
use Rattle.pio_encode.specs.declared.act.SetDestination.TheVariants as set_destination
use Rattle.pio_statement.specs.declared.fault.StatementKind.TheVariants.{Syntax}
use Rattle.pio_statement.specs.declared.instruction.IrqMode.{IrqMode}
use Rattle.pio_statement.specs.declared.instruction.IrqMode.TheVariants.{Raise, RaiseAndWait, Lower}
use Rattle.pio_statement.specs.Answer.{Read}
use Rattle.pio_statement.specs.Tokens.{kind_at, keyword_at}

-- what a WAIT looks at: `gpio pin irq`
abbrev pub wait_source_of : Keyword → Option WaitSource
wait_source_of keyword.Gpio = Some wait_source.Gpio
wait_source_of keyword.Pin = Some wait_source.Pin
wait_source_of keyword.Irq = Some wait_source.Irq
wait_source_of _ = None

-- what an IN reads: `pins x y null isr osr`
abbrev pub in_source_of : Keyword → Option InSource
in_source_of keyword.Pins = Some in_source.Pins
in_source_of keyword.X = Some in_source.X
in_source_of keyword.Y = Some in_source.Y
in_source_of keyword.Null = Some in_source.Null
in_source_of keyword.Isr = Some in_source.Isr
in_source_of keyword.Osr = Some in_source.Osr
in_source_of _ = None

-- where an OUT writes: `pins x y null pindirs pc isr exec`
abbrev pub out_destination_of : Keyword → Option OutDestination
out_destination_of keyword.Pins = Some out_destination.Pins
out_destination_of keyword.X = Some out_destination.X
out_destination_of keyword.Y = Some out_destination.Y
out_destination_of keyword.Null = Some out_destination.Null
out_destination_of keyword.Pindirs = Some out_destination.Pindirs
out_destination_of keyword.Pc = Some out_destination.Pc
out_destination_of keyword.Isr = Some out_destination.Isr
out_destination_of keyword.Exec = Some out_destination.Exec
out_destination_of _ = None

-- where a MOV writes: `pins x y exec pc isr osr`
abbrev pub mov_destination_of : Keyword → Option MovDestination
mov_destination_of keyword.Pins = Some mov_destination.Pins
mov_destination_of keyword.X = Some mov_destination.X
mov_destination_of keyword.Y = Some mov_destination.Y
mov_destination_of keyword.Exec = Some mov_destination.Exec
mov_destination_of keyword.Pc = Some mov_destination.Pc
mov_destination_of keyword.Isr = Some mov_destination.Isr
mov_destination_of keyword.Osr = Some mov_destination.Osr
mov_destination_of _ = None

-- what a MOV reads: `pins x y null status isr osr`
abbrev pub mov_source_of : Keyword → Option MovSource
mov_source_of keyword.Pins = Some mov_source.Pins
mov_source_of keyword.X = Some mov_source.X
mov_source_of keyword.Y = Some mov_source.Y
mov_source_of keyword.Null = Some mov_source.Null
mov_source_of keyword.Status = Some mov_source.Status
mov_source_of keyword.Isr = Some mov_source.Isr
mov_source_of keyword.Osr = Some mov_source.Osr
mov_source_of _ = None

-- where a SET writes: `pins x y pindirs`
abbrev pub set_destination_of : Keyword → Option SetDestination
set_destination_of keyword.Pins = Some set_destination.Pins
set_destination_of keyword.X = Some set_destination.X
set_destination_of keyword.Y = Some set_destination.Y
set_destination_of keyword.Pindirs = Some set_destination.Pindirs
set_destination_of _ = None

-- what an IRQ does: `set nowait wait clear`
abbrev pub irq_mode_of : Keyword → Option IrqMode
irq_mode_of keyword.Set = Some Raise
irq_mode_of keyword.NoWait = Some Raise
irq_mode_of keyword.Wait = Some RaiseAndWait
irq_mode_of keyword.Clear = Some Lower
irq_mode_of _ = None

-- whether a PUSH or a PULL stalls: `block noblock`
abbrev pub blocking_of : Keyword → Option Bool
blocking_of keyword.Block = Some true
blocking_of keyword.NoBlock = Some false
blocking_of _ = None

-- the words that are alone or are left out
abbrev pub if_full_of : Keyword → Option Bool
if_full_of keyword.IfFull = Some true
if_full_of _ = None

-- `ifempty`
abbrev pub if_empty_of : Keyword → Option Bool
if_empty_of keyword.IfEmpty = Some true
if_empty_of _ = None

-- `rel`
abbrev pub relative_of : Keyword → Option Bool
relative_of keyword.Rel = Some true
relative_of _ = None

-- `opt`
abbrev pub opt_of : Keyword → Option Bool
opt_of keyword.Opt = Some true
opt_of _ = None

-- `pindirs`
abbrev pub pindirs_of : Keyword → Option Bool
pindirs_of keyword.Pindirs = Some true
pindirs_of _ = None

-- `public`
abbrev pub public_of : Keyword → Option Bool
public_of keyword.Public = Some true
public_of _ = None

-- an operand, if the word is one
abbrev pub placed : {X : Type 0} → Option X → ℕ → Read X
placed (Some word) after = Ok (word, after)
placed None after = Err Syntax

-- an operand by the word that is there, if one does
abbrev pub operand_by : {X : Type 0} → (Keyword → Option X) → Option (Keyword × ℕ) → Read X
operand_by table (Some (word, after)) = placed (table word) after
operand_by table None = Err Syntax

-- a word of a table
abbrev pub operand : {X : Type 0} → (Keyword → Option X) → List Token → ℕ → Read X
operand table tokens at = operand_by table (keyword_at tokens at)

-- an operand, or what is for it where it is left out
abbrev pub taken : {X : Type 0} → Option X → ℕ → X → ℕ → X × ℕ
taken (Some word) after default at = (word, after)
taken None after default at = (default, at)

-- the same of a word that may be left out
abbrev pub optional_by : {X : Type 0} → (Keyword → Option X) → X → Option (Keyword × ℕ) → ℕ → X × ℕ
optional_by table default (Some (word, after)) at = taken (table word) after default at
optional_by table default None at = (default, at)

-- a word of a table, which may be left out
abbrev pub optional : {X : Type 0} → (Keyword → Option X) → X → List Token → ℕ → X × ℕ
optional table default tokens at = optional_by table default (keyword_at tokens at) at

-- each of these, with the place after it
unfoldable pub wait_source_at : List Token → ℕ → Read WaitSource
wait_source_at tokens at = operand wait_source_of tokens at

-- what an IN reads, at a place
unfoldable pub in_source_at : List Token → ℕ → Read InSource
in_source_at tokens at = operand in_source_of tokens at

-- where an OUT writes
unfoldable pub out_destination_at : List Token → ℕ → Read OutDestination
out_destination_at tokens at = operand out_destination_of tokens at

-- where a MOV writes
unfoldable pub mov_destination_at : List Token → ℕ → Read MovDestination
mov_destination_at tokens at = operand mov_destination_of tokens at

-- what a MOV reads
unfoldable pub mov_source_at : List Token → ℕ → Read MovSource
mov_source_at tokens at = operand mov_source_of tokens at

-- where a SET writes
unfoldable pub set_destination_at : List Token → ℕ → Read SetDestination
set_destination_at tokens at = operand set_destination_of tokens at

-- what an IRQ does; it raises where nothing is said
unfoldable pub irq_mode_at : List Token → ℕ → IrqMode × ℕ
irq_mode_at tokens at = optional irq_mode_of Raise tokens at

-- whether it stalls; it does where nothing is said
unfoldable pub blocking_at : List Token → ℕ → Bool × ℕ
blocking_at tokens at = optional blocking_of true tokens at

-- `iffull`, or nothing
unfoldable pub if_full_at : List Token → ℕ → Bool × ℕ
if_full_at tokens at = optional if_full_of false tokens at

-- `ifempty`, or nothing
unfoldable pub if_empty_at : List Token → ℕ → Bool × ℕ
if_empty_at tokens at = optional if_empty_of false tokens at

-- `rel`, or nothing
unfoldable pub relative_at : List Token → ℕ → Bool × ℕ
relative_at tokens at = optional relative_of false tokens at

-- `opt`, or nothing
unfoldable pub opt_at : List Token → ℕ → Bool × ℕ
opt_at tokens at = optional opt_of false tokens at

-- `pindirs`, or nothing
unfoldable pub pindirs_at : List Token → ℕ → Bool × ℕ
pindirs_at tokens at = optional pindirs_of false tokens at

-- `public`, or nothing
unfoldable pub public_at : List Token → ℕ → Bool × ℕ
public_at tokens at = optional public_of false tokens at

-- what a MOV does to the word: `! ~ ::`, or nothing
abbrev pub operation_by : Option TokenKind → ℕ → MovOperation × ℕ
operation_by (Some kind.Bang) at = (Invert, at + 1)
operation_by (Some kind.Tilde) at = (Invert, at + 1)
operation_by (Some kind.DoubleColon) at = (Reverse, at + 1)
operation_by _ at = (Plain, at)

-- the operation of a MOV, at a place
unfoldable pub operation_at : List Token → ℕ → MovOperation × ℕ
operation_at tokens at = operation_by (kind_at tokens at) at
