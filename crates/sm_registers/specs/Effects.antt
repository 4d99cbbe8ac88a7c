-- What each of the nine instructions does in a tick, one function each: what it reads, when it stalls, what it does.
-- What they share, the PC's next step, side-set, delay and refill, is in Tick.
--   Effect               what an instruction does
--   finished, stall      effects that do nothing but what they did to the registers
--   jmp_effect .. set_effect     the instructions
--   effect_of            that of any act
use Rattle.std.specs.Prelude.{ℕ, ◌+◌, ◌-◌, ◌/◌, ◌%◌, ◌^◌, ◌==◌, nat_lt, nat_le, min, Bool, true, false, not, ◌&&◌, ◌||◌, if◌then◌else◌, Option, Some, None}
use Rattle.pio_encode.specs.declared.act.Act.{Act}
use Rattle.pio_encode.specs.declared.act.Act.TheVariants.{Jmp, Wait, In, Out, Push, Pull, Mov, Irq, Set, Nothing}
use Rattle.pio_encode.specs.declared.act.Condition.{Condition}
use Rattle.pio_encode.specs.declared.act.Condition.TheVariants as condition
use Rattle.pio_encode.specs.declared.act.WaitSource.{WaitSource}
use Rattle.pio_encode.specs.declared.act.WaitSource.TheVariants as wait_source
use Rattle.pio_encode.specs.declared.act.InSource.{InSource}
use Rattle.pio_encode.specs.declared.act.InSource.TheVariants as in_source
use Rattle.pio_encode.specs.declared.act.OutDestination.{OutDestination}
use Rattle.pio_encode.specs.declared.act.OutDestination.TheVariants as out_destination
use Rattle.pio_encode.specs.declared.act.MovDestination.{MovDestination}
use Rattle.pio_encode.specs.declared.act.MovDestination.TheVariants as mov_destination
use Rattle.pio_encode.specs.declared.act.MovOperation.{MovOperation}
use Rattle.pio_encode.specs.declared.act.MovOperation.TheVariants as mov_operation
use Rattle.pio_encode.specs.declared.act.MovSource.{MovSource}
use Rattle.pio_encode.specs.declared.act.MovSource.TheVariants as mov_source
use Rattle.pio_encode.specs.declared.act.SetDestination.{SetDestination}
use Rattle.pio_encode.specs.declared.act.SetDestination.TheVariants as set_destination
use Rattle.shift_engine.specs.Shift.{shifted_in, shifted_out}
use Rattle.shift_engine.specs.Reverse.{reversed_bits}
use Rattle.irq_flags.specs.Flags.{flag_of}
use Rattle.pin_matrix.specs.Pins.{rotated_right, writes_of}
use Rattle.pin_matrix.specs.declared.machine.MachineSetup.{MachineSetup}
use Rattle.sm_registers.specs.declared.registers.Registers.{Registers}
use Rattle.sm_registers.specs.View.{View}
use Rattle.sm_registers.specs.Queues.{Queues}
use Rattle.sm_registers.specs.declared.sticky.TheConstants.{TX_STALL, RX_STALL}

-- What an instruction does in one tick. A write to pins is the pins and their bits.
pub record Effect : Type 0 where
  -- it isn't finished
  pub stalled : Bool
  -- the registers after it; PC, delay, pending word and begun stay as they were
  pub registers : Registers
  -- the PC that it sets, if any
  pub jump : Option ℕ
  -- the word that it makes the next instruction, if any
  pub pending : Option ℕ
  -- its write to levels
  pub level : ℕ × ℕ
  -- its write to directions
  pub direction : ℕ × ℕ
  -- the flags that it lowers
  pub clears : ℕ
  -- the flags that it raises
  pub sets : ℕ
  -- it takes the oldest word of TX
  pub take : Bool
  -- the word that it gives to RX, if any
  pub word : Option ℕ
  -- the sticky FIFO flags that it raises
  pub sticky : ℕ

-- it finishes, and does nothing else than what it did to the registers
abbrev pub finished : Registers → Effect
finished r = record {
  stalled = false;
  registers = r;
  jump = None;
  pending = None;
  level = (0, 0);
  direction = (0, 0);
  clears = 0;
  sets = 0;
  take = false;
  word = None;
  sticky = 0;
}

-- it stalls, and does nothing else than what it did to the registers
abbrev pub stall : Registers → Effect
stall r = record (finished r) { stalled = true }

-- bit i of a word is 1
abbrev pub is_up : ℕ → ℕ → Bool
is_up w i = w / 2 ^ i % 2 == 1

-- one less, and 2^32 - 1 after 0
abbrev pub fallen : ℕ → ℕ
fallen x = (x + (2 ^ 32 - 1)) % 2 ^ 32

-- JMP `x--` and `y--` count down, taken or not (RP2040 Datasheet, section 3.4.2)
abbrev pub counted_down : Condition → Registers → Registers
counted_down condition.XDecrement r = record r { x = fallen r.x }
counted_down condition.YDecrement r = record r { y = fallen r.y }
counted_down c r = r

-- when a JMP is taken, by X and Y before the count; `!osre` looks at the pull threshold
abbrev pub jumps : Condition → MachineSetup → View → Registers → Bool
jumps condition.Always s v r = true
jumps condition.XZero s v r = r.x == 0
jumps condition.XDecrement s v r = not (r.x == 0)
jumps condition.YZero s v r = r.y == 0
jumps condition.YDecrement s v r = not (r.y == 0)
jumps condition.XNotY s v r = not (r.x == r.y)
jumps condition.Pin s v r = is_up v.seen s.jmp_pin
jumps condition.OsrNotEmpty s v r = nat_lt r.out_count s.pull_threshold

-- JMP never stalls (section 3.4.2)
unfoldable pub jmp_effect : Condition → ℕ → MachineSetup → View → Registers → Effect
jmp_effect c address s v r =
    record (finished (counted_down c r)) { jump = if jumps c s v r then Some address else None }

-- what a WAIT looks at; a pin is counted from the input base, and pin 0 comes after pin 31
abbrev pub waited_bit : WaitSource → ℕ → MachineSetup → View → Bool
waited_bit wait_source.Gpio index s v = is_up v.seen index
waited_bit wait_source.Pin index s v = is_up v.seen ((s.in_base + index) % 32)
waited_bit wait_source.Irq index s v = is_up v.flags.up (flag_of index s.id)

-- the flag that a WAIT lowers as it finishes: that of `wait 1 irq` alone
abbrev pub waited_flag : (polarity : Bool) → WaitSource → ℕ → MachineSetup → ℕ
waited_flag polarity wait_source.Irq index s = if polarity then 2 ^ flag_of index s.id else 0
waited_flag polarity source index s = 0

-- the bit has the polarity
abbrev pub has_polarity : (polarity bit : Bool) → Bool
has_polarity polarity bit = if polarity then bit else not bit

-- WAIT stalls until its bit has the polarity (section 3.4.3)
unfoldable pub wait_effect : (polarity : Bool) → WaitSource → ℕ → MachineSetup → View → Registers → Effect
wait_effect polarity source index s v r =
    if has_polarity polarity (waited_bit source index s v)
    then record (finished r) { clears = waited_flag polarity source index s }
    else stall r

-- the word that an IN takes bits of; pin in_base is bit 0 of the pins (section 3.5.6)
abbrev pub in_word : InSource → MachineSetup → View → Registers → ℕ
in_word in_source.Pins s v r = rotated_right v.seen s.in_base
in_word in_source.X s v r = r.x
in_word in_source.Y s v r = r.y
in_word in_source.Null s v r = 0
in_word in_source.Isr s v r = r.isr
in_word in_source.Osr s v r = r.osr

-- the ISR with n bits of a word shifted in; its count stops at 32
abbrev pub with_bits_in : ℕ → ℕ → MachineSetup → Registers → Registers
with_bits_in word n s r =
    record r { isr = shifted_in r.isr word n s.in_right; in_count = min 32 (r.in_count + n) }

-- the ISR is empty
abbrev pub isr_emptied : Registers → Registers
isr_emptied r = record r { isr = 0; in_count = 0 }

-- With autopush, an ISR whose count has reached the threshold is pushed; while RX is full it waits
-- (section 3.5.4).
abbrev pub autopushed : MachineSetup → Queues → Registers → Effect
autopushed s q r =
    if s.autopush && nat_le s.push_threshold r.in_count
    then (if q.rx_full
    then record (stall r) { sticky = RX_STALL }
    else record (finished (isr_emptied r)) { word = Some r.isr })
    else finished r

-- IN shifts in its first tick alone; a later one only pushes (section 3.4.4; that a stall comes after the shift is a
-- choice of this profile)
unfoldable pub in_effect : InSource → ℕ → MachineSetup → View → Queues → Registers → Effect
in_effect source n s v q r =
    autopushed s q (if r.begun then r else with_bits_in (in_word source s v r) n s r)

-- the OSR with n bits shifted out; its count stops at 32
abbrev pub with_bits_out : ℕ → MachineSetup → Registers → Registers
with_bits_out n s r =
    record r { osr = (shifted_out r.osr n s.out_right).1; out_count = min 32 (r.out_count + n) }

-- Where an OUT's bits go, as a number with zeros above them. PINS and PINDIRS write the whole mapping; ISR gets their
-- number as its count; PC gets them modulo 32; EXEC gets the low 16 bits (section 3.4.5).
abbrev pub out_to : OutDestination → (value n : ℕ) → MachineSetup → Registers → Effect
out_to out_destination.Pins value n s r = record (finished r) { level = writes_of s.out value }
out_to out_destination.X value n s r = finished (record r { x = value })
out_to out_destination.Y value n s r = finished (record r { y = value })
out_to out_destination.Null value n s r = finished r
out_to out_destination.Pindirs value n s r = record (finished r) { direction = writes_of s.out value }
out_to out_destination.Pc value n s r = record (finished r) { jump = Some (value % 32) }
out_to out_destination.Isr value n s r = finished (record r { isr = value; in_count = n })
out_to out_destination.Exec value n s r = record (finished r) { pending = Some (value % 2 ^ 16) }

-- TX has no word
abbrev pub starves : Queues → Bool
starves q = q.tx_level == 0

-- the bits go out of the OSR, and where they belong
abbrev pub bits_out_to : OutDestination → ℕ → MachineSetup → Registers → Effect
bits_out_to destination n s r = out_to destination (shifted_out r.osr n s.out_right).0 n s (with_bits_out n s r)

-- autopull is due: the OSR's count has reached the threshold (section 3.5.4)
abbrev pub is_due : MachineSetup → Registers → Bool
is_due s r = s.autopull && nat_le s.pull_threshold r.out_count

-- OUT stalls where autopull is due (section 3.5.4).
unfoldable pub out_effect : OutDestination → ℕ → MachineSetup → Queues → Registers → Effect
out_effect destination n s q r =
    if is_due s r
    then record (stall r) { sticky = if starves q then TX_STALL else 0 }
    else bits_out_to destination n s r

-- PUSH does nothing under IfFull while the ISR's count is below the threshold. On a full RX it stalls, or without Block
-- loses its word (section 3.4.6).
unfoldable pub push_effect : (if_full block : Bool) → MachineSetup → Queues → Registers → Effect
push_effect if_full block s q r =
    if if_full && nat_lt r.in_count s.push_threshold then finished r else
    if not q.rx_full then record (finished (isr_emptied r)) { word = Some r.isr } else
    if block then record (stall r) { sticky = RX_STALL } else record (finished (isr_emptied r)) { sticky = RX_STALL }

-- the OSR is full of a new word
abbrev pub osr_filled : ℕ → Registers → Registers
osr_filled word r = record r { osr = word; out_count = 0 }

-- PULL does nothing under IfEmpty while the OSR's count is below the threshold.
-- With autopull it does nothing while the OSR is full (that is: none of its bits were shifted out, choice of this profile).
abbrev pub pulls_nothing : (if_empty : Bool) → MachineSetup → Registers → Bool
pulls_nothing if_empty s r =
    (if_empty && nat_lt r.out_count s.pull_threshold) || (s.autopull && r.out_count == 0)

-- it takes the front of TX; an empty TX makes it stall, or without Block copy X
abbrev pub pulled : Option ℕ → (block : Bool) → Registers → Effect
pulled (Some word) block r = record (finished (osr_filled word r)) { take = true }
pulled None block r = if block then record (stall r) { sticky = TX_STALL } else finished (osr_filled r.x r)

-- PULL (section 3.4.7)
unfoldable pub pull_effect : (if_empty block : Bool) → MachineSetup → Queues → Registers → Effect
pull_effect if_empty block s q r = if pulls_nothing if_empty s r then finished r else pulled q.front block r

-- STATUS is all ones where the chosen FIFO's level is below N (section 3.7, EXECCTRL; a disabled FIFO's level is 0)
abbrev pub status : MachineSetup → Queues → ℕ
status s q = if nat_lt (if s.status_rx then q.rx_level else q.tx_level) s.status_n then 2 ^ 32 - 1 else 0

-- the word that a MOV takes
abbrev pub mov_word : MovSource → MachineSetup → View → Queues → Registers → ℕ
mov_word mov_source.Pins s v q r = rotated_right v.seen s.in_base
mov_word mov_source.X s v q r = r.x
mov_word mov_source.Y s v q r = r.y
mov_word mov_source.Null s v q r = 0
mov_word mov_source.Status s v q r = status s q
mov_word mov_source.Isr s v q r = r.isr
mov_word mov_source.Osr s v q r = r.osr

-- what a MOV makes of it
abbrev pub operated : MovOperation → ℕ → ℕ
operated mov_operation.Plain word = word
operated mov_operation.Invert word = 2 ^ 32 - 1 - word
operated mov_operation.Reverse word = reversed_bits word

-- Where it goes. PINS is the mapping of OUT; ISR is then empty by its count, OSR full; EXEC gets the low 16 bits
-- (section 3.4.8).
abbrev pub mov_to : MovDestination → (value : ℕ) → MachineSetup → Registers → Effect
mov_to mov_destination.Pins value s r = record (finished r) { level = writes_of s.out value }
mov_to mov_destination.X value s r = finished (record r { x = value })
mov_to mov_destination.Y value s r = finished (record r { y = value })
mov_to mov_destination.Exec value s r = record (finished r) { pending = Some (value % 2 ^ 16) }
mov_to mov_destination.Pc value s r = record (finished r) { jump = Some (value % 32) }
mov_to mov_destination.Isr value s r = finished (record r { isr = value; in_count = 0 })
mov_to mov_destination.Osr value s r = finished (osr_filled value r)

-- MOV never stalls (section 3.4.8)
unfoldable pub mov_effect : MovDestination → MovOperation → MovSource → MachineSetup → View → Queues → Registers → Effect
mov_effect destination operation source s v q r =
    mov_to destination (operated operation (mov_word source s v q r)) s r

-- IRQ lowers its flag, whatever Wait says; else raises it, and with Wait stalls in that tick and until the flag is down
-- (section 3.4.9)
unfoldable pub irq_effect : (clear waits : Bool) → ℕ → MachineSetup → View → Registers → Effect
irq_effect clear waits index s v r =
    if clear then record (finished r) { clears = 2 ^ flag_of index s.id } else
    if not waits then record (finished r) { sets = 2 ^ flag_of index s.id } else
    if not r.begun then record (stall r) { sets = 2 ^ flag_of index s.id } else
    if is_up v.flags.up (flag_of index s.id) then stall r else finished r

-- SET never stalls; X and Y get zeros above the five bits (section 3.4.10)
unfoldable pub set_effect : SetDestination → ℕ → MachineSetup → Registers → Effect
set_effect set_destination.Pins value s r = record (finished r) { level = writes_of s.set value }
set_effect set_destination.X value s r = finished (record r { x = value })
set_effect set_destination.Y value s r = finished (record r { y = value })
set_effect set_destination.Pindirs value s r = record (finished r) { direction = writes_of s.set value }

-- the effect of any act; a reserved encoding does nothing (choice of this profile)
unfoldable pub effect_of : Act → MachineSetup → View → Queues → Registers → Effect
effect_of (Jmp c address) s v q r = jmp_effect c address s v r
effect_of (Wait polarity source index) s v q r = wait_effect polarity source index s v r
effect_of (In source n) s v q r = in_effect source n s v q r
effect_of (Out destination n) s v q r = out_effect destination n s q r
effect_of (Push if_full block) s v q r = push_effect if_full block s q r
effect_of (Pull if_empty block) s v q r = pull_effect if_empty block s q r
effect_of (Mov destination operation source) s v q r = mov_effect destination operation source s v q r
effect_of (Irq clear waits index) s v q r = irq_effect clear waits index s v r
effect_of (Set destination value) s v q r = set_effect destination value s r
effect_of Nothing s v q r = finished r
