-- One machine clock by clock, in the run of a setup with a stimulus.
--   IsOwn            the machine and the pin that are looked at
--   host_in, state_in, view_in      what the system does, the block's state, and what the machines see
--   slots            the machine's place at the start of each clock
--   regs_in, tx_in, level_in        its registers, the words in its TX, and the pin's level at the start of a clock
--   taken_in         the word that it takes from TX in a clock
--   IsPause          a clock in which nothing of it changes
use Rattle.std.specs.Prelude.{◌≡◌, ℕ, zero, suc, ◌<◌, Option, Some, None, List, slice_get, slice_index_or, if◌then◌else◌}
use Rattle.std.specs.Int.{bit_at}
use Rattle.pin_matrix.specs.Pads.{seen_of}
use Rattle.pin_matrix.specs.declared.machine.MachineSetup.{MachineSetup}
use Rattle.pin_matrix.specs.declared.setup.Setup.{Setup}
use Rattle.pin_matrix.specs.declared.span.PinSignal.TheVariants.{Level}
use Rattle.sm_registers.specs.declared.intent.Intent.{Intent}
use Rattle.sm_registers.specs.declared.registers.Registers.{Registers}
use Rattle.sm_registers.specs.View.{View}
use Rattle.dreq_pacing.specs.declared.due.Due.{Due}
use Rattle.dreq_pacing.specs.declared.line.Line.{Line}
use Rattle.block_core.specs.Slots.{Slot, first_slot, lined, acted, slot_after}
use Rattle.block_core.specs.Block.{BlockState, first_run, view_of}
use Rattle.block_core.specs.Following.{OthersLeave}
use Rattle.block_core.specs.History.{pad_at, pad_before}
use Rattle.block_core.specs.Hosted.{hosted_at, host_of}

-- the machine with this number is configured so, and no other one is mapped to the pin
pub record IsOwn (u : Setup) (id : ℕ) (s : MachineSetup) (pin : ℕ) : Type 0 where
  pub in_block : id < 4
  pub configured : slice_index_or u.machines id None ≡ Some s
  pub number : s.id ≡ id
  pub is_pin : pin < 32
  pub alone : OthersLeave Level id pin u.machines

-- what the system does in a clock of the setup's run with a stimulus
abbrev pub host_in : Setup → List Line → ℕ → Due
host_in u lines c = host_of (first_run u) lines c

-- the state at the start of a clock
abbrev pub state_in : Setup → List Line → ℕ → BlockState
state_in u lines c = (hosted_at (first_run u) lines c).run.state

-- what the machines see in it
abbrev pub view_in : Setup → List Line → ℕ → View
view_in u lines c = view_of u.memory (seen_of u.bypass (pad_at u (host_in u lines) c) (pad_before u (host_in u lines) c)) (state_in u lines c)

-- a machine's place at the start of each clock, from its own clocks alone
abbrev pub slots : Setup → List Line → MachineSetup → ℕ → Slot
slots u lines s zero = first_slot s
slots u lines s (suc c) = slot_after (view_in u lines c) (host_in u lines c) (slots u lines s c)

-- what the machine does in a clock
abbrev pub act_in : Setup → List Line → MachineSetup → ℕ → Registers × Intent
act_in u lines s c = acted (view_in u lines c) (lined (host_in u lines c) (slots u lines s c))

-- its registers at the start of a clock
abbrev pub regs_in : Setup → List Line → MachineSetup → ℕ → Registers
regs_in u lines s c = (slots u lines s c).machine.registers

-- its words in TX at the start of a clock
abbrev pub tx_in : Setup → List Line → MachineSetup → ℕ → List ℕ
tx_in u lines s c = (slots u lines s c).machine.ports.fifos.tx

-- the pin's level at the start of a clock
abbrev pub level_in : Setup → List Line → (pin c : ℕ) → ℕ
level_in u lines pin c = bit_at (state_in u lines c).levels pin

-- the word that it takes from TX in a clock, if any
abbrev pub taken_in : Setup → List Line → MachineSetup → ℕ → Option ℕ
taken_in u lines s c = if (act_in u lines s c).1.take then slice_get (tx_in u lines s c) 0 else None

-- in this clock neither its registers nor the pin's level change, and it takes no word
pub record IsPause (u : Setup) (lines : List Line) (s : MachineSetup) (pin c : ℕ) : Type 0 where
  pub registers : regs_in u lines s (suc c) ≡ regs_in u lines s c
  pub level : level_in u lines pin (suc c) ≡ level_in u lines pin c
  pub taken : taken_in u lines s c ≡ None
