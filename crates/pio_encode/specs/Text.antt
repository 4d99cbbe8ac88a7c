-- How pioasm spells an instruction (SDK manual, chapter on pioasm): its operands, its side-set, its delay.
use Rattle.std.specs.Prelude.{ℕ, ◌/◌, ◌%◌, ◌^◌, ◌==◌, if◌then◌else◌, Bool, true, false, Option, Some, None, List, [], ◌++◌, codes, decimal}
use Rattle.pio_encode.specs.declared.act.Act.{Act}
use Rattle.pio_encode.specs.declared.act.Act.TheVariants.{Jmp, Wait, In, Out, Push, Pull, Mov, Irq, Set, Nothing}
use Rattle.pio_encode.specs.declared.act.Condition.{Condition}
use Rattle.pio_encode.specs.declared.act.Condition.TheVariants as condition
use Rattle.pio_encode.specs.declared.act.WaitSource.{WaitSource}
use Rattle.pio_encode.specs.declared.act.WaitSource.TheVariants as wait_source
use Rattle.pio_encode.specs.declared.act.InSource.{InSource}
use Rattle.pio_encode.specs.declared.act.InSource.TheVariants as in_source
use Rattle.pio_encode.specs.declared.act.OutDestination.{OutDestination}
use Rattle.pio_encode.specs.declared.act.OutDestination.TheVariants as out_destination
use Rattle.pio_encode.specs.declared.act.MovDestination.{MovDestination}
use Rattle.pio_encode.specs.declared.act.MovDestination.TheVariants as mov_destination
use Rattle.pio_encode.specs.declared.act.MovOperation.{MovOperation}
use Rattle.pio_encode.specs.declared.act.MovOperation.TheVariants as mov_operation
use Rattle.pio_encode.specs.declared.act.MovSource.{MovSource}
use Rattle.pio_encode.specs.declared.act.MovSource.TheVariants as mov_source
use Rattle.pio_encode.specs.declared.act.SetDestination.{SetDestination}
use Rattle.pio_encode.specs.declared.act.SetDestination.TheVariants as set_destination
use Rattle.pio_encode.specs.declared.op.Op.{Op}
use Rattle.pio_encode.specs.Word.{bit}

-- a JMP's condition with its comma (RP2040 Datasheet, section 3.4.2)
abbrev pub condition_text : Condition → List ℕ
condition_text condition.Always = []
condition_text condition.XZero = codes "!x, "
condition_text condition.XDecrement = codes "x--, "
condition_text condition.YZero = codes "!y, "
condition_text condition.YDecrement = codes "y--, "
condition_text condition.XNotY = codes "x!=y, "
condition_text condition.Pin = codes "pin, "
condition_text condition.OsrNotEmpty = codes "!osre, "

-- what a WAIT looks at (section 3.4.3)
abbrev pub wait_source_text : WaitSource → List ℕ
wait_source_text wait_source.Gpio = codes "gpio"
wait_source_text wait_source.Pin = codes "pin"
wait_source_text wait_source.Irq = codes "irq"

-- an IN's source (section 3.4.4)
abbrev pub in_source_text : InSource → List ℕ
in_source_text in_source.Pins = codes "pins"
in_source_text in_source.X = codes "x"
in_source_text in_source.Y = codes "y"
in_source_text in_source.Null = codes "null"
in_source_text in_source.Isr = codes "isr"
in_source_text in_source.Osr = codes "osr"

-- an OUT's destination (section 3.4.5)
abbrev pub out_destination_text : OutDestination → List ℕ
out_destination_text out_destination.Pins = codes "pins"
out_destination_text out_destination.X = codes "x"
out_destination_text out_destination.Y = codes "y"
out_destination_text out_destination.Null = codes "null"
out_destination_text out_destination.Pindirs = codes "pindirs"
out_destination_text out_destination.Pc = codes "pc"
out_destination_text out_destination.Isr = codes "isr"
out_destination_text out_destination.Exec = codes "exec"

-- a MOV's destination (section 3.4.8)
abbrev pub mov_destination_text : MovDestination → List ℕ
mov_destination_text mov_destination.Pins = codes "pins"
mov_destination_text mov_destination.X = codes "x"
mov_destination_text mov_destination.Y = codes "y"
mov_destination_text mov_destination.Exec = codes "exec"
mov_destination_text mov_destination.Pc = codes "pc"
mov_destination_text mov_destination.Isr = codes "isr"
mov_destination_text mov_destination.Osr = codes "osr"

-- the sign before a MOV's source (section 3.4.8)
abbrev pub mov_operation_text : MovOperation → List ℕ
mov_operation_text mov_operation.Plain = []
mov_operation_text mov_operation.Invert = codes "!"
mov_operation_text mov_operation.Reverse = codes "::"

-- a MOV's source (section 3.4.8)
abbrev pub mov_source_text : MovSource → List ℕ
mov_source_text mov_source.Pins = codes "pins"
mov_source_text mov_source.X = codes "x"
mov_source_text mov_source.Y = codes "y"
mov_source_text mov_source.Null = codes "null"
mov_source_text mov_source.Status = codes "status"
mov_source_text mov_source.Isr = codes "isr"
mov_source_text mov_source.Osr = codes "osr"

-- what a SET sets (section 3.4.10)
abbrev pub set_destination_text : SetDestination → List ℕ
set_destination_text set_destination.Pins = codes "pins"
set_destination_text set_destination.X = codes "x"
set_destination_text set_destination.Y = codes "y"
set_destination_text set_destination.Pindirs = codes "pindirs"

-- an IRQ flag of a five-bit index: its number, and `rel` where bit 4 is set
abbrev pub flag_text : ℕ → List ℕ
flag_text index = decimal (index % 2 ^ 3) ++ (if index / 2 ^ 4 == 1 then codes " rel" else [])

-- a WAIT's index: of a flag or of a pin
abbrev pub index_text : WaitSource → ℕ → List ℕ
index_text wait_source.Gpio index = decimal index
index_text wait_source.Pin index = decimal index
index_text wait_source.Irq index = flag_text index

-- what an IRQ does to its flag (section 3.4.9)
abbrev pub irq_mode_text : Bool → Bool → List ℕ
irq_mode_text clear wait = if clear then codes "clear" else if wait then codes "wait" else codes "nowait"

-- whether a PUSH or a PULL waits
abbrev pub block_text : Bool → List ℕ
block_text block = if block then codes " block" else codes " noblock"

-- a MOV of Y to itself, which pioasm spells `nop`
abbrev pub is_nop : MovDestination → MovOperation → MovSource → Bool
is_nop mov_destination.Y mov_operation.Plain mov_source.Y = true
is_nop _ _ _ = false

-- an instruction without side-set and delay (SDK manual, chapter on pioasm)
unfoldable pub act_text : Act → List ℕ
act_text (Jmp condition address) = codes "jmp " ++ condition_text condition ++ decimal address
act_text (Wait polarity source index) =
    codes "wait " ++ decimal (bit polarity) ++ codes " " ++ wait_source_text source ++ codes " " ++ index_text source index
act_text (In source count) = codes "in " ++ in_source_text source ++ codes ", " ++ decimal count
act_text (Out destination count) = codes "out " ++ out_destination_text destination ++ codes ", " ++ decimal count
act_text (Push if_full block) = codes "push" ++ (if if_full then codes " iffull" else []) ++ block_text block
act_text (Pull if_empty block) = codes "pull" ++ (if if_empty then codes " ifempty" else []) ++ block_text block
act_text (Mov destination operation source) =
    if is_nop destination operation source then codes "nop" else
    codes "mov " ++ mov_destination_text destination ++ codes ", " ++ mov_operation_text operation ++ mov_source_text source
act_text (Irq clear wait index) = codes "irq " ++ irq_mode_text clear wait ++ codes " " ++ flag_text index
act_text (Set destination value) = codes "set " ++ set_destination_text destination ++ codes ", " ++ decimal value
act_text Nothing = []

-- the side-set value, where there is one
abbrev pub side_text : Option ℕ → List ℕ
side_text None = []
side_text (Some value) = codes " side " ++ decimal value

-- the delay, where it is not 0
abbrev pub delay_text : ℕ → List ℕ
delay_text delay = if delay == 0 then [] else codes " [" ++ decimal delay ++ codes "]"

-- an instruction's text
unfoldable pub op_text : Op → List ℕ
op_text op = act_text op.act ++ side_text op.side ++ delay_text op.delay
