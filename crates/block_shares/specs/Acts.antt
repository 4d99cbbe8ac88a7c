-- What an instruction can feel of its block, what it does to the flags, and where it goes on (RP2040 Datasheet, section 3.4).
-- In a number bit i is for pin, flag or address i.
--   has          a bit is 1
--   leads_to     the addresses that may come after it
--   is_wild      it sets PC, or the next instruction, from data
--   reads_of     the pins that it reads
--   sees_of      the flags that it waits for
--   changes_of   the flags that it raises or lowers
use Rattle.std.specs.Prelude.{ℕ, ◌+◌, ◌-◌, ◌/◌, ◌%◌, ◌^◌, ◌==◌, Bool, true, false, if◌then◌else◌, bit_or}
use Rattle.pio_encode.specs.declared.act.Act.{Act}
use Rattle.pio_encode.specs.declared.act.Act.TheVariants.{Jmp, Wait, In, Out, Push, Pull, Mov, Irq, Set, Nothing}
use Rattle.pio_encode.specs.declared.act.Condition.{Condition}
use Rattle.pio_encode.specs.declared.act.Condition.TheVariants as condition
use Rattle.pio_encode.specs.declared.act.WaitSource.{WaitSource}
use Rattle.pio_encode.specs.declared.act.WaitSource.TheVariants as wait_source
use Rattle.pio_encode.specs.declared.act.InSource.{InSource}
use Rattle.pio_encode.specs.declared.act.InSource.TheVariants as in_source
use Rattle.pio_encode.specs.declared.act.OutDestination.{OutDestination}
use Rattle.pio_encode.specs.declared.act.OutDestination.TheVariants as out_destination
use Rattle.pio_encode.specs.declared.act.MovDestination.{MovDestination}
use Rattle.pio_encode.specs.declared.act.MovDestination.TheVariants as mov_destination
use Rattle.pio_encode.specs.declared.act.MovSource.{MovSource}
use Rattle.pio_encode.specs.declared.act.MovSource.TheVariants as mov_source
use Rattle.irq_flags.specs.Flags.{flag_of}
use Rattle.pin_matrix.specs.Pins.{rotated_right}
use Rattle.pin_matrix.specs.declared.machine.MachineSetup.{MachineSetup}

-- bit i is 1
abbrev pub has : ℕ → ℕ → Bool
has set i = set / 2 ^ i % 2 == 1

-- all 32 pins, or addresses
abbrev pub all_32 : ℕ
all_32 = 2 ^ 32 - 1

-- all eight flags
abbrev pub all_flags : ℕ
all_flags = 2 ^ 8 - 1

-- so many pins from this one on, round after pin 31 (section 3.5.6)
abbrev pub pins_in : (base count : ℕ) → ℕ
pins_in base count = rotated_right ((2 ^ 32 - 1) % 2 ^ count) (32 - base)

-- a JMP without a condition is always taken; any other goes both ways, whatever is known of X and Y
abbrev pub jump_leads_to : Condition → (address next : ℕ) → ℕ
jump_leads_to condition.Always address next = 2 ^ address
jump_leads_to condition.XZero address next = bit_or (2 ^ next) (2 ^ address)
jump_leads_to condition.XDecrement address next = bit_or (2 ^ next) (2 ^ address)
jump_leads_to condition.YZero address next = bit_or (2 ^ next) (2 ^ address)
jump_leads_to condition.YDecrement address next = bit_or (2 ^ next) (2 ^ address)
jump_leads_to condition.XNotY address next = bit_or (2 ^ next) (2 ^ address)
jump_leads_to condition.Pin address next = bit_or (2 ^ next) (2 ^ address)
jump_leads_to condition.OsrNotEmpty address next = bit_or (2 ^ next) (2 ^ address)

-- the addresses that may come after an instruction which this address follows on; a wild one may go anywhere, which isn't said here
abbrev pub leads_to : Act → (next : ℕ) → ℕ
leads_to (Jmp c address) next = jump_leads_to c address next
leads_to (Wait polarity source index) next = 2 ^ next
leads_to (In source n) next = 2 ^ next
leads_to (Out destination n) next = 2 ^ next
leads_to (Push if_full block) next = 2 ^ next
leads_to (Pull if_empty block) next = 2 ^ next
leads_to (Mov destination operation source) next = 2 ^ next
leads_to (Irq clear waits index) next = 2 ^ next
leads_to (Set destination value) next = 2 ^ next
leads_to Nothing next = 2 ^ next

-- an OUT to PC or EXEC
abbrev pub is_wild_out : OutDestination → Bool
is_wild_out out_destination.Pins = false
is_wild_out out_destination.X = false
is_wild_out out_destination.Y = false
is_wild_out out_destination.Null = false
is_wild_out out_destination.Pindirs = false
is_wild_out out_destination.Pc = true
is_wild_out out_destination.Isr = false
is_wild_out out_destination.Exec = true

-- a MOV to PC or EXEC
abbrev pub is_wild_mov : MovDestination → Bool
is_wild_mov mov_destination.Pins = false
is_wild_mov mov_destination.X = false
is_wild_mov mov_destination.Y = false
is_wild_mov mov_destination.Exec = true
is_wild_mov mov_destination.Pc = true
is_wild_mov mov_destination.Isr = false
is_wild_mov mov_destination.Osr = false

-- it sets PC, or the next instruction, from data: OUT and MOV to PC and EXEC (sections 3.4.5 and 3.4.8)
abbrev pub is_wild : Act → Bool
is_wild (Jmp c address) = false
is_wild (Wait polarity source index) = false
is_wild (In source n) = false
is_wild (Out destination n) = is_wild_out destination
is_wild (Push if_full block) = false
is_wild (Pull if_empty block) = false
is_wild (Mov destination operation source) = is_wild_mov destination
is_wild (Irq clear waits index) = false
is_wild (Set destination value) = false
is_wild Nothing = false

-- `jmp pin` reads the machine's jump pin (section 3.4.2)
abbrev pub jump_reads : Condition → MachineSetup → ℕ
jump_reads condition.Always s = 0
jump_reads condition.XZero s = 0
jump_reads condition.XDecrement s = 0
jump_reads condition.YZero s = 0
jump_reads condition.YDecrement s = 0
jump_reads condition.XNotY s = 0
jump_reads condition.Pin s = 2 ^ s.jmp_pin
jump_reads condition.OsrNotEmpty s = 0

-- WAIT reads a GPIO by its number, or a pin counted from in_base (section 3.4.3)
abbrev pub wait_reads : WaitSource → (index : ℕ) → MachineSetup → ℕ
wait_reads wait_source.Gpio index s = 2 ^ index
wait_reads wait_source.Pin index s = 2 ^ ((s.in_base + index) % 32)
wait_reads wait_source.Irq index s = 0

-- `in pins, n` reads the first n pins from in_base on (section 3.4.4)
abbrev pub in_reads : InSource → (n : ℕ) → MachineSetup → ℕ
in_reads in_source.Pins n s = pins_in s.in_base n
in_reads in_source.X n s = 0
in_reads in_source.Y n s = 0
in_reads in_source.Null n s = 0
in_reads in_source.Isr n s = 0
in_reads in_source.Osr n s = 0

-- a MOV from PINS reads all pins (section 3.4.8)
abbrev pub mov_reads : MovSource → ℕ
mov_reads mov_source.Pins = all_32
mov_reads mov_source.X = 0
mov_reads mov_source.Y = 0
mov_reads mov_source.Null = 0
mov_reads mov_source.Status = 0
mov_reads mov_source.Isr = 0
mov_reads mov_source.Osr = 0

-- the pins that an instruction reads
abbrev pub reads_of : Act → MachineSetup → ℕ
reads_of (Jmp c address) s = jump_reads c s
reads_of (Wait polarity source index) s = wait_reads source index s
reads_of (In source n) s = in_reads source n s
reads_of (Out destination n) s = 0
reads_of (Push if_full block) s = 0
reads_of (Pull if_empty block) s = 0
reads_of (Mov destination operation source) s = mov_reads source
reads_of (Irq clear waits index) s = 0
reads_of (Set destination value) s = 0
reads_of Nothing s = 0

-- the flag that a WAIT looks at
abbrev pub wait_sees : WaitSource → (index : ℕ) → MachineSetup → ℕ
wait_sees wait_source.Gpio index s = 0
wait_sees wait_source.Pin index s = 0
wait_sees wait_source.Irq index s = 2 ^ flag_of index s.id

-- an IRQ waits for its flag where it has Wait, and not Clear, beside which Wait does nothing (section 3.4.9)
abbrev pub irq_sees : (clear waits : Bool) → (index : ℕ) → MachineSetup → ℕ
irq_sees clear waits index s = if clear then 0 else if waits then 2 ^ flag_of index s.id else 0

-- the flags that an instruction waits for
abbrev pub sees_of : Act → MachineSetup → ℕ
sees_of (Jmp c address) s = 0
sees_of (Wait polarity source index) s = wait_sees source index s
sees_of (In source n) s = 0
sees_of (Out destination n) s = 0
sees_of (Push if_full block) s = 0
sees_of (Pull if_empty block) s = 0
sees_of (Mov destination operation source) s = 0
sees_of (Irq clear waits index) s = irq_sees clear waits index s
sees_of (Set destination value) s = 0
sees_of Nothing s = 0

-- the flag that a WAIT lowers as it finishes: that of `wait 1 irq`
abbrev pub wait_changes : (polarity : Bool) → WaitSource → (index : ℕ) → MachineSetup → ℕ
wait_changes polarity wait_source.Gpio index s = 0
wait_changes polarity wait_source.Pin index s = 0
wait_changes polarity wait_source.Irq index s = if polarity then 2 ^ flag_of index s.id else 0

-- the flags that an instruction raises or lowers
abbrev pub changes_of : Act → MachineSetup → ℕ
changes_of (Jmp c address) s = 0
changes_of (Wait polarity source index) s = wait_changes polarity source index s
changes_of (In source n) s = 0
changes_of (Out destination n) s = 0
changes_of (Push if_full block) s = 0
changes_of (Pull if_empty block) s = 0
changes_of (Mov destination operation source) s = 0
changes_of (Irq clear waits index) s = 2 ^ flag_of index s.id
changes_of (Set destination value) s = 0
changes_of Nothing s = 0
