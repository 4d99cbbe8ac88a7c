-- A machine's state, and what becomes of it in a clock.
--   MachinePorts            the FIFOs with what they tell
--   MachineState            all of a machine
--   first_machine           as a setup begins
--   queues_of               what a tick sees of the FIFOs
--   tick_in                 the machine's next tick
--   settled_ports           the ports after a clock
--   uses_fifos              whether anything is done at the FIFOs in a clock
--   shown_of                what can be seen of a machine
use Rattle.std.specs.Prelude.{◌≡◌, ℕ, ◌+◌, ◌==◌, Bool, false, ◌||◌, Option, Some, None, is_some, length, slice_get, if◌then◌else◌, bit_or}
use Rattle.fifo_pair.specs.Fifos.{Fifos, Fits, first_fifos, settled, is_full, is_over, is_under, got_word, room_of}
use Rattle.pin_matrix.specs.declared.machine.MachineSetup.{MachineSetup}
use Rattle.sm_registers.specs.declared.registers.Registers.{Registers}
use Rattle.sm_registers.specs.Queues.{Queues}
use Rattle.sm_registers.specs.declared.intent.Intent.{Intent}
use Rattle.sm_registers.specs.declared.sticky.TheConstants.{TX_OVER, RX_UNDER}
use Rattle.sm_registers.specs.declared.shown.Shown.{Shown}
use Rattle.sm_registers.specs.Ranges.{IsPlaced}
use Rattle.sm_registers.specs.Tick.{tick_of}
use Rattle.sm_registers.specs.View.{View}

-- the FIFOs, the last word that the system read, and the sticky FIFO flags
pub record MachinePorts : Type 0 where
  pub fifos : Fifos
  pub got : ℕ
  pub sticky : ℕ

-- all of a machine
pub record MachineState : Type 0 where
  pub setup : MachineSetup
  pub registers : Registers
  pub ports : MachinePorts

-- At the start PC, X, Y, the shift registers with their counts and the pending word are the setup's. A word that is pending there is
-- as one that was written to SMx_INSTR before the machine is enabled (RP2040 Datasheet, section 3.7; choice of this profile: all
-- else is 0).
abbrev pub first_registers : MachineSetup → Registers
first_registers s = record {
  pc = s.start;
  x = s.x;
  y = s.y;
  isr = s.isr;
  osr = s.osr;
  in_count = s.isr_count;
  out_count = s.osr_count;
  delay = 0;
  pending = s.pending;
  begun = false;
}

-- at the start the FIFOs are empty, and nothing was read or reported
abbrev pub first_machine : MachineSetup → MachineState
first_machine s = record {
  setup = s;
  registers = first_registers s;
  ports = record { fifos = first_fifos s.join_tx s.join_rx; got = 0; sticky = 0 };
}

-- what a tick sees of the FIFOs, as they are at the clock's start
abbrev pub queues_of : Fifos → Queues
queues_of f = record {
  front = slice_get f.tx 0;
  tx_level = length f.tx;
  rx_level = length f.rx;
  rx_full = is_full f.rx_room f.rx;
}

-- the machine's next tick: the registers after it, and what it does outside them
abbrev pub tick_in : View → MachineState → Registers × Intent
tick_in v m = tick_of m.setup v (queues_of m.ports.fifos) m.registers

-- the sticky flags of the system's accesses
abbrev pub told : (over under : Bool) → ℕ
told over under = (if over then TX_OVER else 0) + (if under then RX_UNDER else 0)

-- a word that the system read, else the one before
abbrev pub got_after : Option ℕ → ℕ → ℕ
got_after None before = before
got_after (Some word) before = word

-- The ports after a clock in which the machine wants this, and the system writes the word, if any, and reads or doesn't.
-- A sticky flag stays up (RP2040 Datasheet, section 3.7, FDEBUG).
unfoldable pub settled_ports : Intent → (system_word : Option ℕ) → (system_read : Bool) → MachinePorts → MachinePorts
settled_ports i system_word system_read p = record {
  fifos = settled i.take i.word system_word system_read p.fifos;
  got = got_after (got_word system_read p.fifos) p.got;
  sticky = bit_or (told (is_over system_word p.fifos) (is_under system_read p.fifos)) (bit_or i.sticky p.sticky);
}

-- whether the machine or the system does anything at the FIFOs in the clock
abbrev pub uses_fifos : Intent → (system_word : Option ℕ) → (system_read : Bool) → Bool
uses_fifos i system_word system_read = i.take || (is_some i.word || (is_some system_word || system_read))

-- what can be seen of a machine
abbrev pub shown_of : MachinePorts → Shown
shown_of p = record {
  tx = length p.fifos.tx;
  rx = length p.fifos.rx;
  tx_full = is_full p.fifos.tx_room p.fifos.tx;
  rx_empty = length p.fifos.rx == 0;
  got = p.got;
  sticky = p.sticky;
}

-- what is always true of a machine
pub record IsKept (s : MachineSetup) (r : Registers) (f : Fifos) : Type 0 where
  pub placed : IsPlaced r
  pub fits : Fits f
  pub tx_room : f.tx_room ≡ room_of s.join_tx s.join_rx
  pub rx_room : f.rx_room ≡ room_of s.join_rx s.join_tx
