-- A machine tick by tick: its registers and a pin's level at the start of each tick, and the word that it takes from TX in it.
--   IsAtInstruction  it is at an address, with so many ticks of delay left before it
--   IsStep           one tick
--   takes            the words that are taken in some ticks
use Rattle.std.specs.Prelude.{◌≡◌, ℕ, zero, suc, ◌+◌, false, Option, None, option_to_list, List, [], ◌++◌, if◌then◌else◌}
use Rattle.pin_matrix.specs.declared.machine.MachineSetup.{MachineSetup}
use Rattle.pin_matrix.specs.Pins.{last_of}
use Rattle.sm_registers.specs.declared.registers.Registers.{Registers}
use Rattle.sm_registers.specs.View.{View}
use Rattle.sm_registers.specs.Queues.{Queues}
use Rattle.sm_registers.specs.Tick.{tick_of}
use Rattle.sm_registers.specs.Intents.{two_writes}

-- at an instruction, or in the delay before it, with nothing pending and nothing begun
pub record IsAtInstruction (address left : ℕ) (r : Registers) : Type 0 where
  pub pc : r.pc ≡ address
  pub delay : r.delay ≡ left
  pub pending : r.pending ≡ None
  pub begun : r.begun ≡ false

-- A tick of a machine, whatever it sees of pins, flags and FIFOs: the registers and the pin's level before it and after it, and the
-- word that it takes.
pub record IsStep (s : MachineSetup) (memory : List ℕ) (pin : ℕ) (before : Registers) (level : ℕ) (after : Registers) (next : ℕ) (taken : Option ℕ) : Type 0 where
  pub view : View
  pub queues : Queues
  pub memory_is : view.memory ≡ memory
  pub registers : after ≡ (tick_of s view queues before).0
  pub level_is : next ≡ last_of pin level (two_writes (tick_of s view queues before).1.level)
  pub taken_is : taken ≡ (if (tick_of s view queues before).1.take then queues.front else None)

-- the words that are taken in so many ticks, or clocks, from one on
abbrev pub takes : (ℕ → Option ℕ) → ℕ → ℕ → List ℕ
takes taken t zero = []
takes taken t (suc n) = option_to_list (taken t) ++ takes taken (t + 1) n
