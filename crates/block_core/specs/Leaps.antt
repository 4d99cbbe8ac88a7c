-- A run after clocks in which nothing stirs and the system does nothing: time goes by, and delays count.
--   ticks_in      how many ticks a machine has in some clocks
--   leapt_slot    a machine after them
--   leapt_place   the same of a place in the block
--   leapt         the run after them
--   stirs_after   whether the machine of a place stirs in the clock after them
--   CalmLaws      why it is so
use Rattle.std.specs.Prelude.{◌≡◌, ℕ, ◌+◌, ◌-◌, Bool, false, Option, None, option_map, map, if◌then◌else◌}
use Rattle.clock_divider.specs.Ticks.{tick_count}
use Rattle.fifo_pair.specs.Fifos.{Fifos, settled}
use Rattle.pin_matrix.specs.declared.machine.MachineSetup.{MachineSetup}
use Rattle.sm_registers.specs.declared.registers.Registers.{Registers}
use Rattle.sm_registers.specs.Idling.{stirs, only_counts, only_waits}
use Rattle.sm_registers.specs.Queues.{Queues}
use Rattle.sm_registers.specs.Tick.{tick_of}
use Rattle.sm_registers.specs.StallFlags.{IsKnown, AreUp}
use Rattle.sm_registers.specs.View.{View}
use Rattle.dreq_pacing.specs.Due.{quiet}
use Rattle.block_core.specs.Slots.{Slot, place_intent}
use Rattle.block_core.specs.Block.{Run}

-- how many ticks it has in the n clocks from the present one on: none while it is disabled
abbrev pub ticks_in : ℕ → Slot → ℕ
ticks_in n s = if s.enabled then tick_count s.timing.restarted s.timing.period s.timing.clock n else 0

-- it after n clocks: its divider runs on, and what is left of a delay counts down by its ticks
abbrev pub leapt_slot : ℕ → Slot → Slot
leapt_slot n s = record s {
  machine = record s.machine { registers = record s.machine.registers { delay = s.machine.registers.delay - ticks_in n s } };
  timing = record s.timing { clock = s.timing.clock + n };
}

-- the same of a place, where a machine is configured or not
abbrev pub leapt_place : ℕ → Option Slot → Option Slot
leapt_place n place = option_map (leapt_slot n) place

-- the run after n clocks; its pins, flags, FIFOs and synchronisers stay
unfoldable pub leapt : ℕ → Run → Run
leapt n r = record r {
  clock = r.clock + n;
  state = record r.state { machines = map (leapt_place n) r.state.machines };
}

-- whether the machine of a place stirs in the clock after n others, where it sees this in each
abbrev pub stirs_after : View → Option Slot → ℕ → Bool
stirs_after v place n = stirs (place_intent v quiet (leapt_place n place))

-- What the laws of ticks that don't stir, and of FIFOs at which nobody does anything, say.
pub record CalmLaws : Type 0 where
  pub counts : (s : MachineSetup) (v : View) (q : Queues) (r : Registers) → stirs (tick_of s v q r).1 ≡ false
      → tick_of s v q r ≡ (only_counts r, only_waits (tick_of s v q r).1)
  pub tells : (s : MachineSetup) (v : View) (q : Queues) (r : Registers) (sticky : ℕ)
      → IsKnown v s r sticky → stirs (tick_of s v q r).1 ≡ false → AreUp (tick_of s v q r).1.sticky sticky
  pub fifos : (f : Fifos) → settled false None None false f ≡ f
