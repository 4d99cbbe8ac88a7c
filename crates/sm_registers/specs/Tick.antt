-- One tick: which word is current, what its instruction does (Effects), and what each tick does besides (RP2040 Datasheet,
-- sections 3.2.4 and 3.5).
--   current_word     the word that is executed
--   after_effect     the registers after an instruction's effect: PC, pending word, delay, begun
--   refilled         the registers after autopull
--   tick_delay       a tick of a delay
--   tick_word        a tick of an instruction
--   tick_of          a tick
use Rattle.std.specs.Prelude.{ℕ, ◌+◌, ◌-◌, ◌%◌, ◌==◌, nat_lt, Bool, true, false, ◌&&◌, ◌||◌, if◌then◌else◌, Option, Some, None, is_some, [], ◌∷◌, slice_index}
use Rattle.pio_encode.specs.declared.op.Op.{Op}
use Rattle.pio_encode.specs.Word.{reading_of}
use Rattle.pin_matrix.specs.Pins.{writes_of}
use Rattle.pin_matrix.specs.declared.machine.MachineSetup.{MachineSetup}
use Rattle.sm_registers.specs.declared.registers.Registers.{Registers}
use Rattle.sm_registers.specs.View.{View}
use Rattle.sm_registers.specs.Queues.{Queues}
use Rattle.sm_registers.specs.declared.intent.Intent.{Intent}
use Rattle.sm_registers.specs.declared.intent.Kind.TheVariants.{First, Late, Delay}
use Rattle.sm_registers.specs.Intents.{no_intent}
use Rattle.sm_registers.specs.Effects.{Effect, is_due, osr_filled, effect_of}

-- the address after another: the program wraps after wrap_top (section 3.5.2), and the memory after 31
abbrev pub next_after : MachineSetup → (address : ℕ) → ℕ
next_after s address = if address == s.wrap_top then s.wrap_bottom else (address + 1) % 32

-- that after PC
abbrev pub next_pc : MachineSetup → Registers → ℕ
next_pc s r = next_after s r.pc

-- the pending word, else memory at PC
abbrev pub word_at : Option ℕ → View → ℕ → ℕ
word_at (Some word) v pc = word
word_at None v pc = slice_index v.memory pc

-- the word that this tick runs (section 3.5.7)
abbrev pub current_word : View → Registers → ℕ
current_word v r = word_at r.pending v r.pc

-- PC after a finished instruction: where it jumps to, else the next address; a pending word moves PC only by writing it
-- (choice of this profile)
abbrev pub pc_after : (jump : Option ℕ) → (was_pending : Bool) → MachineSetup → Registers → ℕ
pc_after (Some address) was_pending s r = address
pc_after None was_pending s r = if was_pending then r.pc else next_pc s r

-- the delay after a finished instruction, which one that makes a word pending hasn't (sections 3.4.5 and 3.4.8)
abbrev pub delay_after : (pending : Option ℕ) → ℕ → ℕ
delay_after (Some word) delay = 0
delay_after None delay = delay

-- The registers after the effect of an instruction. One that stalled has begun; one that finished is used up where it
-- was pending, moves PC, and leaves its delay.
unfoldable pub after_effect : (delay : ℕ) → MachineSetup → Registers → Effect → Registers
after_effect delay s r e = let done = e.registers in
    if e.stalled then record done { begun = true } else
    record done {
      pc = pc_after e.jump (is_some r.pending) s r;
      pending = e.pending;
      delay = delay_after e.pending delay;
      begun = false;
    }

-- Autopull fills the OSR where it is due and TX has a word: in any tick, after what the tick does (section 3.5.4; that every tick refills, and by its own count, is a choice of this profile)
abbrev pub refills : MachineSetup → Queues → Registers → Bool
refills s q r = is_due s r && is_some q.front

-- OSR from the front of TX, unchanged where TX is empty
abbrev pub osr_filled_from : Option ℕ → Registers → Registers
osr_filled_from None r = r
osr_filled_from (Some word) r = osr_filled word r

-- the registers after the refill of a tick, where it is due (section 3.5.4)
abbrev pub refilled : MachineSetup → Queues → Registers → Registers
refilled s q r = if is_due s r then osr_filled_from q.front r else r

-- The pins that side-set writes, by the mapping of the setup: in the first tick of an instruction, whether it stalls or not
-- (section 3.5.1)
abbrev pub side_writes : (side : Option ℕ) → (begun : Bool) → MachineSetup → ℕ × ℕ
side_writes None begun s = (0, 0)
side_writes (Some value) begun s = if begun then (0, 0) else writes_of s.side value

-- a tick of the delay after an instruction
unfoldable pub tick_delay : MachineSetup → Queues → Registers → Registers × Intent
tick_delay s q r = let after = record r { delay = r.delay - 1 } in
    (refilled s q after, record no_intent { take = refills s q after; kind = Delay })

-- a tick of an instruction, by its effect
unfoldable pub tick_by : Op → MachineSetup → Queues → Registers → Effect → Registers × Intent
tick_by op s q r e = let after = after_effect op.delay s r e in let side_set = side_writes op.side r.begun s in (
  refilled s q after,
  record {
    level = e.level ∷ (if s.side_rule.pindirs then (0, 0) else side_set) ∷ [];
    direction = e.direction ∷ (if s.side_rule.pindirs then side_set else (0, 0)) ∷ [];
    clears = e.clears;
    sets = e.sets;
    take = e.take || refills s q after;
    word = e.word;
    sticky = e.sticky;
    kind = if r.begun then Late else First;
    stalled = e.stalled;
  },
)

-- a tick of an instruction
unfoldable pub tick_word : Op → MachineSetup → View → Queues → Registers → Registers × Intent
tick_word op s v q r = tick_by op s q r (effect_of op.act s v q r)

-- A tick: the registers after it, and what it does outside them. A delay that is left comes first.
unfoldable pub tick_of : MachineSetup → View → Queues → Registers → Registers × Intent
tick_of s v q r =
    if nat_lt 0 r.delay then tick_delay s q r else tick_word (reading_of (current_word v r) s.side_rule) s v q r
