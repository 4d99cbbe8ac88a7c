-- One machine in a run of its block: when it ticks, what it does in a clock, and what becomes of it.
--   Slot            a machine with its divider
--   first_slot      as a setup begins
--   lined           after the lines of a clock that enable, disable or restart it
--   has_tick        that the clock is a tick of it
--   acted           its registers after the clock, and what it wants of its block
--   slot_after      after the clock
--   is_simple       that it has no tick in a clock, or a simple one
--   is_ready        that it begins an instruction from memory, on a machine without autopull
--   MakesSimpleClock   what it does in a clock that is simple: it writes pins, and wants nothing else
--   doing           what the system does, where it does anything
use Rattle.std.specs.Prelude.{◌≡◌, ℕ, ◌+◌, Bool, true, false, not, ◌&&◌, ◌||◌, Option, Some, None, if◌then◌else◌, slice_index_or}
use Rattle.std.specs.Borrow.{Bor}
use Rattle.clock_divider.specs.Timing.{Timing, period_of, first, stepped, resumed}
use Rattle.clock_divider.specs.Ticks.{is_tick}
use Rattle.pin_matrix.specs.declared.machine.MachineSetup.{MachineSetup}
use Rattle.sm_registers.specs.declared.registers.Registers.{Registers}
use Rattle.sm_registers.specs.View.{View}
use Rattle.sm_registers.specs.declared.intent.Intent.{Intent}
use Rattle.sm_registers.specs.declared.outputs.Outputs.{Outputs}
use Rattle.sm_registers.specs.Intents.{no_intent, no_wants, wants_of, written_by}
use Rattle.sm_registers.specs.Simple as simple
use Rattle.sm_registers.specs.Tick.{tick_of}
use Rattle.sm_registers.specs.State.{MachineState, first_machine, queues_of, settled_ports, uses_fifos}
use Rattle.dreq_pacing.specs.declared.due.Due.{Due}
use Rattle.dreq_pacing.specs.Due.{quiet}

-- A machine, its divider, whether it is enabled, and how many words paced transfers moved into its TX and out of its RX.
pub record Slot : Type 0 where
  pub machine : MachineState
  pub timing : Timing
  pub enabled : Bool
  pub sent : ℕ
  pub received : ℕ

-- what the system does in a clock, where it does anything
abbrev pub doing : Option (Bor Due) → Due
doing None = quiet
doing (Some d) = d.now

-- at the start it is enabled, and its divider's first tick is in clock 0 (choice of this profile)
abbrev pub first_slot : MachineSetup → Slot
first_slot s = record {
  machine = first_machine s;
  timing = first (period_of s.int s.frac);
  enabled = true;
  sent = 0;
  received = 0;
}

-- whether it is enabled after the lines of a clock
abbrev pub enabled_by : Due → ℕ → Bool → Bool
enabled_by d id enabled =
    if slice_index_or d.enable id false then true else if slice_index_or d.disable id false then false else enabled

-- its divider after the lines of a clock
abbrev pub timed_by : Due → ℕ → Timing → Timing
timed_by d id t = if slice_index_or d.restart id false then resumed t else t

-- A line enables or disables a machine or restarts its divider before the tick of its clock (RP2040 Datasheet,
-- section 3.7, CTRL; the order is a choice of this profile).
abbrev pub lined : Due → Slot → Slot
lined d s = record s {
  enabled = enabled_by d s.machine.setup.id s.enabled;
  timing = timed_by d s.machine.setup.id s.timing;
}

-- The clock is a tick of its divider, and it is enabled: a disabled machine has no tick, while its divider runs on.
abbrev pub has_tick : Slot → Bool
has_tick s = s.enabled && is_tick s.timing.restarted s.timing.period s.timing.clock

-- what it does in the clock, seeing this: a tick, or nothing
unfoldable pub acted : View → Slot → Registers × Intent
acted v s =
    if has_tick s then tick_of s.machine.setup v (queues_of s.machine.ports.fifos) s.machine.registers
    else (s.machine.registers, no_intent)

-- one more, where it is so
abbrev pub counted : Bool → ℕ → ℕ
counted more n = if more then n + 1 else n

-- it at the end of the clock, in which it did this: its FIFOs, with what the system does at them, and its divider
unfoldable pub settled_slot : Due → Registers × Intent → Slot → Slot
settled_slot d a s = let id = s.machine.setup.id in record {
  machine = record {
    setup = s.machine.setup;
    registers = a.0;
    ports = settled_ports a.1 (slice_index_or d.word id None) (slice_index_or d.read id false) s.machine.ports;
  };
  timing = stepped s.timing;
  enabled = s.enabled;
  sent = counted (slice_index_or d.word_paced id false) s.sent;
  received = counted (slice_index_or d.read_paced id false) s.received;
}

-- it after the clock
abbrev pub slot_after : View → Due → Slot → Slot
slot_after v d s = settled_slot d (acted v (lined d s)) (lined d s)

-- what it wants of its block in the clock
abbrev pub slot_intent : View → Due → Slot → Intent
slot_intent v d s = (acted v (lined d s)).1

-- the clock is a simple one: it has no tick, or a simple one, if no line acts in it; an empty place has none
abbrev pub is_simple : View → Option Slot → Bool
is_simple v None = false
is_simple v (Some s) = not (has_tick s) || simple.is_simple s.machine.setup v s.machine.registers

-- the clock is a tick in which it begins an instruction from memory, on a machine without autopull, if no line acts in it; an empty
-- place has none
abbrev pub is_ready : Option Slot → Bool
is_ready None = false
is_ready (Some s) = has_tick s && simple.is_ready s.machine.setup s.machine.registers

-- A machine went through a clock in which the system does nothing, and wants nothing but pins, which are written over those of
-- the machines before it.
pub record MakesSimpleClock (v : View) (s next : Slot) (o put : Outputs) : Type 0 where
  pub after : next ≡ slot_after v quiet s
  pub outputs : put ≡ written_by o (slot_intent v quiet s)
  pub wants : wants_of (slot_intent v quiet s) ≡ no_wants

-- a place of the block after the clock, where a machine is configured or not
abbrev pub place_after : View → Due → Option Slot → Option Slot
place_after v d None = None
place_after v d (Some s) = Some (slot_after v d s)

-- what the machine of a place wants of its block in this clock; an empty place wants nothing
abbrev pub place_intent : View → Due → Option Slot → Intent
place_intent v d None = no_intent
place_intent v d (Some s) = slot_intent v d s

-- whether it, which wants this, or the system does anything at its FIFOs in the clock
abbrev pub used_by : Due → Slot → Intent → Bool
used_by d s i = let id = s.machine.setup.id in
    uses_fifos i (slice_index_or d.word id None) (slice_index_or d.read id false)

-- the same by what it sees
abbrev pub slot_uses_fifos : View → Due → Slot → Bool
slot_uses_fifos v d s = used_by d s (slot_intent v d s)

-- the same of a place in the block; an empty place has no FIFOs
abbrev pub place_uses_fifos : View → Due → Option Slot → Bool
place_uses_fifos v d None = false
place_uses_fifos v d (Some s) = slot_uses_fifos v d s
