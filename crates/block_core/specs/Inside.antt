-- What is inside a block after a clock, besides what its sample shows (which values are shown is a choice of this profile).
--   machine_inside   one machine
--   inside_of        the block, by a run that is at the start of the next clock
--   is_of_an_instruction   which of a machine's ticks tell whether it waits
--   inside_at        after a clock of a run with a stimulus
--   insides          after each of the first clocks
use Rattle.std.specs.Prelude.{ℕ, zero, suc, Bool, true, false, List, [], ◌∷◌, ◌++◌, map, option_map}
use Rattle.sm_registers.specs.declared.intent.Kind.{Kind}
use Rattle.sm_registers.specs.declared.intent.Kind.TheVariants.{Off, First, Late, Delay}
use Rattle.sm_registers.specs.Tick.{current_word}
use Rattle.dreq_pacing.specs.declared.line.Line.{Line}
use Rattle.block_core.specs.declared.inside.MachineInside.{MachineInside}
use Rattle.block_core.specs.declared.inside.Inside.{Inside}
use Rattle.block_core.specs.Block.{Run}
use Rattle.block_core.specs.Hosted.{hosted_at}
use Rattle.block_core.specs.Kept.{memory_alone}
use Rattle.block_core.specs.Shown.{sample_of}
use Rattle.block_core.specs.Slots.{Slot}

-- A machine as it is after the clock (RP2040 Datasheet, sections 3.2.1 and 3.2.4). PC is the address of the instruction that its next
-- tick begins or goes on with, or that it begins once its delay is over; the word is the pending one, else memory's there
-- (section 3.5.7). It waits where that instruction stalled in the last tick: a delay comes after an instruction has finished, so
-- that is no waiting.
unfoldable pub machine_inside : (memory : List ℕ) → Slot → MachineInside
machine_inside memory s = let r = s.machine.registers in record {
  pc = r.pc;
  instruction = current_word (memory_alone memory) r;
  x = r.x;
  y = r.y;
  isr = r.isr;
  osr = r.osr;
  isr_count = r.in_count;
  osr_count = r.out_count;
  waits = r.begun;
  enabled = s.enabled;
}

-- A block: its sample; the pads of the clock that has gone by, before the input synchronisers, whose first flip-flops keep them
-- (section 3.5.6.3); and each machine. In a run in which no clock has gone by the pads are those before clock 0.
unfoldable pub inside_of : Run → Inside
inside_of r = record {
  sample = sample_of r.state;
  pads = r.synchroniser.pad_1;
  machines = map (option_map (machine_inside r.memory)) r.state.machines;
}

-- a tick is one of an instruction, and not of the delay after one
abbrev pub is_of_an_instruction : Kind → Bool
is_of_an_instruction Off = false
is_of_an_instruction First = true
is_of_an_instruction Late = true
is_of_an_instruction Delay = false

-- what is inside after a clock of a run with a stimulus
abbrev pub inside_at : Run → List Line → ℕ → Inside
inside_at start lines clock = inside_of (hosted_at start lines (suc clock)).run

-- after each of the first n clocks
unfoldable pub insides : Run → List Line → ℕ → List Inside
insides start lines zero = []
insides start lines (suc n) = insides start lines n ++ inside_at start lines n ∷ []
