-- Words of the laws of a tick.
--   IsFair           an intent takes a word only where TX has one, and gives one only where RX has room
--   TakesInto        a taken word is all that the OSR holds
--   GivesAll         nothing is left in the ISR
--   AreWords         each register is in its range
--   AreWordsSeen     what a tick reads is in its range
--   WritesPins       an intent's pairs are writes of pins
--   read_of          what an act reads of the view, as one number
--   IsAlike          a tick reads the same in two views
use Rattle.std.specs.Prelude.{◌≡◌, ℕ, ◌+◌, ◌/◌, ◌%◌, ◌^◌, ◌<◌, Bool, true, false, not, if◌then◌else◌, IfSome, is_some}
use Rattle.pio_encode.specs.declared.act.Act.{Act}
use Rattle.pio_encode.specs.declared.act.Act.TheVariants.{Jmp, Wait, In, Mov, Irq}
use Rattle.pio_encode.specs.declared.act.Condition.TheVariants as condition
use Rattle.pio_encode.specs.declared.act.Condition.{Condition}
use Rattle.pio_encode.specs.declared.act.WaitSource.{WaitSource}
use Rattle.pio_encode.specs.declared.act.WaitSource.TheVariants as wait_source
use Rattle.pio_encode.specs.declared.act.InSource.{InSource}
use Rattle.pio_encode.specs.declared.act.InSource.TheVariants as in_source
use Rattle.pio_encode.specs.declared.act.MovSource.{MovSource}
use Rattle.pio_encode.specs.declared.act.MovSource.TheVariants as mov_source
use Rattle.pio_encode.specs.Word.{act_of}
use Rattle.irq_flags.specs.Flags.{flag_of}
use Rattle.std.specs.List.{AllByRecursion}
use Rattle.pin_matrix.specs.Pins.{IsWrite, rotated_right}
use Rattle.pin_matrix.specs.declared.machine.MachineSetup.{MachineSetup}
use Rattle.sm_registers.specs.declared.registers.Registers.{Registers}
use Rattle.sm_registers.specs.View.{View}
use Rattle.sm_registers.specs.Queues.{Queues}
use Rattle.sm_registers.specs.declared.intent.Intent.{Intent}
use Rattle.sm_registers.specs.Ranges.{IsPlaced}
use Rattle.sm_registers.specs.Tick.{current_word}

-- it takes a word only where TX has one, and gives one only where RX has room
pub record IsFair (q : Queues) (i : Intent) : Type 0 where
  pub take : i.take ≡ true → is_some q.front ≡ true
  pub word : is_some i.word ≡ true → q.rx_full ≡ false

-- the OSR holds the whole word, of which no bit was shifted out
pub record TakesInto (word : ℕ) (r : Registers) : Type 0 where
  pub osr : r.osr ≡ word
  pub out_count : r.out_count ≡ 0

-- the ISR is empty
pub record GivesAll (r : Registers) : Type 0 where
  pub isr : r.isr ≡ 0
  pub in_count : r.in_count ≡ 0

-- each register is in its range
pub record AreWords (r : Registers) : Type 0 where
  pub placed : IsPlaced r
  pub x : r.x < 2 ^ 32
  pub y : r.y < 2 ^ 32
  pub isr : r.isr < 2 ^ 32
  pub osr : r.osr < 2 ^ 32
  pub pending : IfSome r.pending (λ w. w < 2 ^ 16)

-- what a tick reads is in its range
pub record AreWordsSeen (v : View) (q : Queues) : Type 0 where
  pub seen : v.seen < 2 ^ 32
  pub front : IfSome q.front (λ w. w < 2 ^ 32)

-- its writes to levels and to directions have bits at their own pins alone
pub record WritesPins (i : Intent) : Type 0 where
  pub level : AllByRecursion IsWrite i.level
  pub direction : AllByRecursion IsWrite i.direction

-- the bit of a word as a number
abbrev pub bit_of : ℕ → ℕ → ℕ
bit_of w i = w / 2 ^ i % 2

-- what a JMP reads: its pin, under the condition `pin`
abbrev pub jmp_reads : Condition → MachineSetup → View → ℕ
jmp_reads condition.Pin s v = bit_of v.seen s.jmp_pin
jmp_reads c s v = 0

-- what a WAIT reads: its pin or its flag
abbrev pub wait_reads : WaitSource → ℕ → MachineSetup → View → ℕ
wait_reads wait_source.Gpio index s v = bit_of v.seen index
wait_reads wait_source.Pin index s v = bit_of v.seen ((s.in_base + index) % 32)
wait_reads wait_source.Irq index s v = bit_of v.flags.up (flag_of index s.id)

-- what an IN reads: n pins, in its first tick
abbrev pub in_reads : InSource → ℕ → MachineSetup → View → Registers → ℕ
in_reads in_source.Pins n s v r = if r.begun then 0 else rotated_right v.seen s.in_base % 2 ^ n
in_reads source n s v r = 0

-- what a MOV reads: all pins, where they are its source
abbrev pub mov_reads : MovSource → MachineSetup → View → ℕ
mov_reads mov_source.Pins s v = rotated_right v.seen s.in_base
mov_reads source s v = 0

-- what an IRQ reads: its flag, where it waits and has begun
abbrev pub irq_reads : (clear waits begun : Bool) → ℕ → MachineSetup → View → ℕ
irq_reads clear waits begun index s v =
    if clear then 0 else if not waits then 0 else if not begun then 0 else bit_of v.flags.up (flag_of index s.id)

-- what an act reads of the view, as one number
abbrev pub read_of : Act → MachineSetup → Registers → View → ℕ
read_of (Jmp c address) s r v = jmp_reads c s v
read_of (Wait polarity source index) s r v = wait_reads source index s v
read_of (In source n) s r v = in_reads source n s v r
read_of (Mov destination operation source) s r v = mov_reads source s v
read_of (Irq clear waits index) s r v = irq_reads clear waits r.begun index s v
read_of act s r v = 0

-- a tick reads the same in two views: the same word, and what its act reads
pub record IsAlike (s : MachineSetup) (r : Registers) (v w : View) : Type 0 where
  pub word : current_word v r ≡ current_word w r
  pub reads : read_of (act_of (current_word v r)) s r v ≡ read_of (act_of (current_word v r)) s r w
