-- A word and its reading, field by field: the instruction table of the RP2040 Datasheet, section 3.4.
use Rattle.std.specs.Prelude.{ℕ, ◌+◌, ◌*◌, ◌/◌, ◌%◌, ◌^◌, ◌==◌, nat_lt, if◌then◌else◌, Bool, true, false, Option, Some, None}
use Rattle.pio_encode.specs.declared.act.Act.{Act}
use Rattle.pio_encode.specs.declared.act.Act.TheVariants.{Jmp, Wait, In, Out, Push, Pull, Mov, Irq, Set, Nothing}
use Rattle.pio_encode.specs.declared.act.Condition.{Condition}
use Rattle.pio_encode.specs.declared.act.Condition.TheVariants as condition
use Rattle.pio_encode.specs.declared.act.WaitSource.{WaitSource}
use Rattle.pio_encode.specs.declared.act.WaitSource.TheVariants as wait_source
use Rattle.pio_encode.specs.declared.act.InSource.{InSource}
use Rattle.pio_encode.specs.declared.act.InSource.TheVariants as in_source
use Rattle.pio_encode.specs.declared.act.OutDestination.{OutDestination}
use Rattle.pio_encode.specs.declared.act.OutDestination.TheVariants as out_destination
use Rattle.pio_encode.specs.declared.act.MovDestination.{MovDestination}
use Rattle.pio_encode.specs.declared.act.MovDestination.TheVariants as mov_destination
use Rattle.pio_encode.specs.declared.act.MovOperation.{MovOperation}
use Rattle.pio_encode.specs.declared.act.MovOperation.TheVariants as mov_operation
use Rattle.pio_encode.specs.declared.act.MovSource.{MovSource}
use Rattle.pio_encode.specs.declared.act.MovSource.TheVariants as mov_source
use Rattle.pio_encode.specs.declared.act.SetDestination.{SetDestination}
use Rattle.pio_encode.specs.declared.act.SetDestination.TheVariants as set_destination
use Rattle.pio_encode.specs.declared.op.Op.{Op}
use Rattle.pio_encode.specs.declared.rule.SideRule.{SideRule}
use Rattle.pio_encode.specs.Ranges.{delay_bits}

-- n bits of a word from bit low on, as a number
abbrev pub bits : ℕ → ℕ → ℕ → ℕ
bits word low n = word / 2 ^ low % 2 ^ n

-- a bit as a number
abbrev pub bit : Bool → ℕ
bit true = 1
bit false = 0

-- the number of a JMP condition: bits 7 to 5 (section 3.4.2)
abbrev pub condition_number : Condition → ℕ
condition_number condition.Always = 0
condition_number condition.XZero = 1
condition_number condition.XDecrement = 2
condition_number condition.YZero = 3
condition_number condition.YDecrement = 4
condition_number condition.XNotY = 5
condition_number condition.Pin = 6
condition_number condition.OsrNotEmpty = 7

-- the number of a WAIT source: bits 6 to 5 (section 3.4.3)
abbrev pub wait_source_number : WaitSource → ℕ
wait_source_number wait_source.Gpio = 0
wait_source_number wait_source.Pin = 1
wait_source_number wait_source.Irq = 2

-- the number of an IN source: bits 7 to 5 (section 3.4.4)
abbrev pub in_source_number : InSource → ℕ
in_source_number in_source.Pins = 0
in_source_number in_source.X = 1
in_source_number in_source.Y = 2
in_source_number in_source.Null = 3
in_source_number in_source.Isr = 6
in_source_number in_source.Osr = 7

-- the number of an OUT destination: bits 7 to 5 (section 3.4.5)
abbrev pub out_destination_number : OutDestination → ℕ
out_destination_number out_destination.Pins = 0
out_destination_number out_destination.X = 1
out_destination_number out_destination.Y = 2
out_destination_number out_destination.Null = 3
out_destination_number out_destination.Pindirs = 4
out_destination_number out_destination.Pc = 5
out_destination_number out_destination.Isr = 6
out_destination_number out_destination.Exec = 7

-- the number of a MOV destination: bits 7 to 5 (section 3.4.8)
abbrev pub mov_destination_number : MovDestination → ℕ
mov_destination_number mov_destination.Pins = 0
mov_destination_number mov_destination.X = 1
mov_destination_number mov_destination.Y = 2
mov_destination_number mov_destination.Exec = 4
mov_destination_number mov_destination.Pc = 5
mov_destination_number mov_destination.Isr = 6
mov_destination_number mov_destination.Osr = 7

-- the number of a MOV operation: bits 4 to 3 (section 3.4.8)
abbrev pub mov_operation_number : MovOperation → ℕ
mov_operation_number mov_operation.Plain = 0
mov_operation_number mov_operation.Invert = 1
mov_operation_number mov_operation.Reverse = 2

-- the number of a MOV source: bits 2 to 0 (section 3.4.8)
abbrev pub mov_source_number : MovSource → ℕ
mov_source_number mov_source.Pins = 0
mov_source_number mov_source.X = 1
mov_source_number mov_source.Y = 2
mov_source_number mov_source.Null = 3
mov_source_number mov_source.Status = 5
mov_source_number mov_source.Isr = 6
mov_source_number mov_source.Osr = 7

-- the number of a SET destination: bits 7 to 5 (section 3.4.10)
abbrev pub set_destination_number : SetDestination → ℕ
set_destination_number set_destination.Pins = 0
set_destination_number set_destination.X = 1
set_destination_number set_destination.Y = 2
set_destination_number set_destination.Pindirs = 4

-- the kind: bits 15 to 13; PUSH and PULL share one (section 3.4.1)
unfoldable pub kind_of : Act → ℕ
kind_of (Jmp condition address) = 0
kind_of (Wait polarity source index) = 1
kind_of (In source count) = 2
kind_of (Out destination count) = 3
kind_of (Push if_full block) = 4
kind_of (Pull if_empty block) = 4
kind_of (Mov destination operation source) = 5
kind_of (Irq clear wait index) = 6
kind_of (Set destination value) = 7
kind_of Nothing = 0

-- the operands: bits 7 to 0; a count of 32 is written as 0 (sections 3.4.2 to 3.4.10)
unfoldable pub operands_of : Act → ℕ
operands_of (Jmp condition address) = condition_number condition * 2 ^ 5 + address
operands_of (Wait polarity source index) = bit polarity * 2 ^ 7 + wait_source_number source * 2 ^ 5 + index
operands_of (In source count) = in_source_number source * 2 ^ 5 + count % 32
operands_of (Out destination count) = out_destination_number destination * 2 ^ 5 + count % 32
operands_of (Push if_full block) = bit if_full * 2 ^ 6 + bit block * 2 ^ 5
operands_of (Pull if_empty block) = 1 * 2 ^ 7 + bit if_empty * 2 ^ 6 + bit block * 2 ^ 5
operands_of (Mov destination operation source) =
    mov_destination_number destination * 2 ^ 5 + mov_operation_number operation * 2 ^ 3 + mov_source_number source
operands_of (Irq clear wait index) = bit clear * 2 ^ 6 + bit wait * 2 ^ 5 + index
operands_of (Set destination value) = set_destination_number destination * 2 ^ 5 + value
operands_of Nothing = 0

-- the enable bit, the topmost of bits 12 to 8 under opt
abbrev pub enable_bit : SideRule → ℕ
enable_bit rule = if rule.opt then 2 ^ 4 else 0

-- Bits 12 to 8 as a number: the side-set value is above the delay, and under opt the enable bit above both
-- (RP2040 Datasheet, section 3.5.1).
unfoldable pub side_and_delay : SideRule → Option ℕ → ℕ → ℕ
side_and_delay rule None delay = delay
side_and_delay rule (Some value) delay = enable_bit rule + value * 2 ^ delay_bits rule + delay

-- the word of an instruction that fits
unfoldable pub word_of : Op → SideRule → ℕ
word_of op rule = kind_of op.act * 2 ^ 13 + side_and_delay rule op.side op.delay * 2 ^ 8 + operands_of op.act

-- the condition with this number
abbrev pub condition_at : ℕ → Condition
condition_at n =
    if n == 0 then condition.Always else
    if n == 1 then condition.XZero else
    if n == 2 then condition.XDecrement else
    if n == 3 then condition.YZero else
    if n == 4 then condition.YDecrement else
    if n == 5 then condition.XNotY else
    if n == 6 then condition.Pin else condition.OsrNotEmpty

-- WAIT: bit 7 is the polarity, bits 6 to 5 the source, of which 3 is reserved
unfoldable pub wait_at : ℕ → Act
wait_at w =
    let source = bits w 5 2 in
    if source == 0 then Wait (bits w 7 1 == 1) wait_source.Gpio (bits w 0 5) else
    if source == 1 then Wait (bits w 7 1 == 1) wait_source.Pin (bits w 0 5) else
    if source == 2 then Wait (bits w 7 1 == 1) wait_source.Irq (bits w 0 5) else Nothing

-- a count's field: 0 is 32
abbrev pub count_at : ℕ → ℕ
count_at n = if n == 0 then 32 else n

-- IN: sources 4 and 5 are reserved
unfoldable pub in_at : ℕ → Act
in_at w =
    let source = bits w 5 3 in
    if source == 0 then In in_source.Pins (count_at (bits w 0 5)) else
    if source == 1 then In in_source.X (count_at (bits w 0 5)) else
    if source == 2 then In in_source.Y (count_at (bits w 0 5)) else
    if source == 3 then In in_source.Null (count_at (bits w 0 5)) else
    if source == 6 then In in_source.Isr (count_at (bits w 0 5)) else
    if source == 7 then In in_source.Osr (count_at (bits w 0 5)) else Nothing

-- the destination of an OUT with this number
abbrev pub out_destination_at : ℕ → OutDestination
out_destination_at n =
    if n == 0 then out_destination.Pins else
    if n == 1 then out_destination.X else
    if n == 2 then out_destination.Y else
    if n == 3 then out_destination.Null else
    if n == 4 then out_destination.Pindirs else
    if n == 5 then out_destination.Pc else
    if n == 6 then out_destination.Isr else out_destination.Exec

-- PUSH and PULL: bit 7 tells them apart; bits 4 to 0 are 0, else the word is reserved (choice of this profile)
unfoldable pub push_or_pull_at : ℕ → Act
push_or_pull_at w =
    if bits w 0 5 == 0
    then (if bits w 7 1 == 1 then Pull (bits w 6 1 == 1) (bits w 5 1 == 1) else Push (bits w 6 1 == 1) (bits w 5 1 == 1))
    else Nothing

-- the destination of a MOV with this number; 3 is reserved
abbrev pub mov_destination_at : ℕ → Option MovDestination
mov_destination_at n =
    if n == 0 then Some mov_destination.Pins else
    if n == 1 then Some mov_destination.X else
    if n == 2 then Some mov_destination.Y else
    if n == 4 then Some mov_destination.Exec else
    if n == 5 then Some mov_destination.Pc else
    if n == 6 then Some mov_destination.Isr else
    if n == 7 then Some mov_destination.Osr else None

-- the operation of a MOV with this number; 3 is reserved
abbrev pub mov_operation_at : ℕ → Option MovOperation
mov_operation_at n =
    if n == 0 then Some mov_operation.Plain else
    if n == 1 then Some mov_operation.Invert else
    if n == 2 then Some mov_operation.Reverse else None

-- the source of a MOV with this number; 4 is reserved
abbrev pub mov_source_at : ℕ → Option MovSource
mov_source_at n =
    if n == 0 then Some mov_source.Pins else
    if n == 1 then Some mov_source.X else
    if n == 2 then Some mov_source.Y else
    if n == 3 then Some mov_source.Null else
    if n == 5 then Some mov_source.Status else
    if n == 6 then Some mov_source.Isr else
    if n == 7 then Some mov_source.Osr else None

-- a MOV whose three fields are known, else a reserved word
abbrev pub mov_with : Option MovDestination → Option MovOperation → Option MovSource → Act
mov_with (Some destination) (Some operation) (Some source) = Mov destination operation source
mov_with _ _ _ = Nothing

-- MOV: destination 3, operation 3 and source 4 are reserved
unfoldable pub mov_at : ℕ → Act
mov_at w = mov_with (mov_destination_at (bits w 5 3)) (mov_operation_at (bits w 3 2)) (mov_source_at (bits w 0 3))

-- IRQ: bit 7 is 0, else the word is reserved (choice of this profile)
unfoldable pub irq_at : ℕ → Act
irq_at w = if bits w 7 1 == 0 then Irq (bits w 6 1 == 1) (bits w 5 1 == 1) (bits w 0 5) else Nothing

-- SET: destinations 3, 5, 6 and 7 are reserved
unfoldable pub set_at : ℕ → Act
set_at w =
    let destination = bits w 5 3 in
    if destination == 0 then Set set_destination.Pins (bits w 0 5) else
    if destination == 1 then Set set_destination.X (bits w 0 5) else
    if destination == 2 then Set set_destination.Y (bits w 0 5) else
    if destination == 4 then Set set_destination.Pindirs (bits w 0 5) else Nothing

-- what a word does, by its kind in bits 15 to 13
unfoldable pub act_of : ℕ → Act
act_of w =
    let kind = bits w 13 3 in
    if kind == 0 then Jmp (condition_at (bits w 5 3)) (bits w 0 5) else
    if kind == 1 then wait_at w else
    if kind == 2 then in_at w else
    if kind == 3 then Out (out_destination_at (bits w 5 3)) (count_at (bits w 0 5)) else
    if kind == 4 then push_or_pull_at w else
    if kind == 5 then mov_at w else
    if kind == 6 then irq_at w else set_at w

-- bits 12 to 8 hold a side-set value: under opt where the enable bit is set, else where the rule has bits
abbrev pub has_side : SideRule → ℕ → Bool
has_side rule field = if rule.opt then field / 2 ^ 4 == 1 else nat_lt 0 rule.bits

-- the side-set value in bits 12 to 8: it is above the delay
unfoldable pub side_of : SideRule → ℕ → Option ℕ
side_of rule field = if has_side rule field then Some (field / 2 ^ delay_bits rule % 2 ^ rule.bits) else None

-- the delay in bits 12 to 8
unfoldable pub delay_of : SideRule → ℕ → ℕ
delay_of rule field = field % 2 ^ delay_bits rule

-- what a word means under a side-set rule, field by field
unfoldable pub reading_of : ℕ → SideRule → Op
reading_of w rule = record { side = side_of rule (bits w 8 5); delay = delay_of rule (bits w 8 5); act = act_of w }
