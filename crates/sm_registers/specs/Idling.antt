-- Which ticks stir, and how long a machine idles while nothing outside it changes.
--   begins, finishes   a tick is the first of its instruction, or its last
--   stirs              a tick begins or finishes an instruction, or refills the OSR
--   only_counts        the registers after a tick that doesn't stir
--   only_waits         what such a tick wants of its block
--   after_ticks        the registers after some ticks
--   stirs_at           whether the tick after so many others stirs
--   begins_next        the next tick begins an instruction
--   undelayed          what the current instruction does, without the delay that is left
--   is_unmet           it is a WAIT whose bit hasn't the polarity
--   waits_again        the next tick only waits once more
--   stays              a stall that nothing but the outside ends
--   idle_of            the ticks until one stirs
--   IsIdle             what this number means
--   IsSoon             it is below 32
use Rattle.std.specs.Prelude.{◌≡◌, ℕ, zero, suc, ◌-◌, ◌<◌, ◌==◌, Bool, true, false, not, ◌&&◌, ◌||◌, if◌then◌else◌}
use Rattle.pio_encode.specs.declared.act.Act.{Act}
use Rattle.pio_encode.specs.declared.act.Act.TheVariants.{Wait}
use Rattle.pio_encode.specs.Word.{reading_of}
use Rattle.pin_matrix.specs.declared.machine.MachineSetup.{MachineSetup}
use Rattle.sm_registers.specs.declared.idle.Idle.{Idle}
use Rattle.sm_registers.specs.declared.idle.Idle.TheVariants.{Ticks, Never}
use Rattle.sm_registers.specs.declared.intent.Intent.{Intent}
use Rattle.sm_registers.specs.declared.intent.Kind.{Kind}
use Rattle.sm_registers.specs.declared.intent.Kind.TheVariants.{First, Late}
use Rattle.sm_registers.specs.Intents.{no_intent}
use Rattle.sm_registers.specs.declared.registers.Registers.{Registers}
use Rattle.sm_registers.specs.View.{View}
use Rattle.sm_registers.specs.Queues.{Queues}
use Rattle.sm_registers.specs.Effects.{Effect, effect_of, has_polarity, waited_bit}
use Rattle.sm_registers.specs.Rules.{current_act}
use Rattle.sm_registers.specs.Tick.{current_word, refills, tick_of}

-- the tick is the first of its instruction
abbrev pub begins : Kind → Bool
begins First = true
begins kind = false

-- the tick is the last of its instruction, which doesn't stall in it
abbrev pub finishes : Kind → (stalled : Bool) → Bool
finishes First stalled = not stalled
finishes Late stalled = not stalled
finishes kind stalled = false

-- It begins or finishes an instruction, or refills the OSR. A PULL that takes a word finishes, so that `take` adds only the
-- refills (choice of this profile: which ticks stir).
abbrev pub stirs : Intent → Bool
stirs i = begins i.kind || (finishes i.kind i.stalled || i.take)

-- the registers after a tick that doesn't stir: the delay counts, and a stall has none
abbrev pub only_counts : Registers → Registers
only_counts r = record r { delay = r.delay - 1 }

-- the intent of a tick that doesn't stir: which tick of its instruction it is, and the sticky flags of a stall
abbrev pub only_waits : Intent → Intent
only_waits i = record no_intent { sticky = i.sticky; kind = i.kind; stalled = i.stalled }

-- the registers after n ticks that see the same each time
unfoldable pub after_ticks : MachineSetup → View → Queues → ℕ → Registers → Registers
after_ticks s v q zero r = r
after_ticks s v q (suc n) r = (tick_of s v q (after_ticks s v q n r)).0

-- whether the tick after n others stirs, where all see the same
abbrev pub stirs_at : MachineSetup → View → Queues → Registers → ℕ → Bool
stirs_at s v q r n = stirs (tick_of s v q (after_ticks s v q n r)).1

-- the next tick is the first of its instruction, by the registers alone: no delay is left, and the instruction has not stalled
abbrev pub begins_next : Registers → Bool
begins_next r = (r.delay == 0) && not r.begun

-- what the current instruction does as soon as no delay is left
abbrev pub undelayed : MachineSetup → View → Queues → Registers → Effect
undelayed s v q r = effect_of (current_act v r) s v q (record r { delay = 0 })

-- a WAIT whose bit hasn't the polarity
abbrev pub is_unmet : Act → MachineSetup → View → Bool
is_unmet (Wait polarity source index) s v = not (has_polarity polarity (waited_bit source index s v))
is_unmet act s v = false

-- no delay is left, and a WAIT that stalled before does so again; autopull, which may refill the OSR in it, is off
abbrev pub waits_again : MachineSetup → View → Registers → Bool
waits_again s v r =
    not s.autopull && (r.delay == 0 && (r.begun && is_unmet (reading_of (current_word v r) s.side_rule).act s v))

-- its instruction stalled before, and stalls again
abbrev pub stays : MachineSetup → View → Queues → Registers → Bool
stays s v q r = r.begun && (undelayed s v q r).stalled

-- The ticks before the next one that stirs. A refill is at once, also within a delay or a stall; else a stall lasts, and
-- a delay ends with the tick after it.
abbrev pub idle_of : MachineSetup → View → Queues → Registers → Idle
idle_of s v q r = if refills s q r then Ticks 0 else if stays s v q r then Never else Ticks r.delay

-- no tick stirs, or the one after n others is the first that does
abbrev pub IsIdle : MachineSetup → View → Queues → Registers → Idle → Type 0
IsIdle s v q r Never = (k : ℕ) → stirs_at s v q r k ≡ false
IsIdle s v q r (Ticks n) = (stirs_at s v q r n ≡ true) × ((k : ℕ) → k < n → stirs_at s v q r k ≡ false)

-- it is never, or before tick 32 from now on
abbrev pub IsSoon : Idle → Type 0
IsSoon Never = Unit
IsSoon (Ticks n) = n < 32
