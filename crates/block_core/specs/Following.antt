-- Runs in which the machines see any pads, such as those of pins that another block drives.
--   Follows          each state follows from the one before it
--   place_at         a machine's place in a state
--   intent_in        what a machine wants in a clock
--   leaves           a machine is mapped to no level of a pin, or to no direction
--   OthersLeave      all machines but one are
use Rattle.std.specs.Prelude.{◌≡◌, ℕ, suc, Bool, true, not, ◌&&◌, ◌||◌, Option, None, IfSome, List, slice_index_or}
use Rattle.pin_matrix.specs.declared.machine.MachineSetup.{MachineSetup}
use Rattle.pin_matrix.specs.declared.span.PinSignal.{PinSignal}
use Rattle.pin_matrix.specs.declared.span.PinSignal.TheVariants.{Level, Direction}
use Rattle.sm_registers.specs.declared.intent.Intent.{Intent}
use Rattle.sm_registers.specs.Rules.{holds}
use Rattle.dreq_pacing.specs.declared.due.Due.{Due}
use Rattle.block_core.specs.Slots.{Slot, place_intent}
use Rattle.block_core.specs.Block.{BlockState, stepped, view_of}

-- The state after each clock is that of the state before it, in which the machines see these pins and the system does this.
abbrev pub Follows : (memory : List ℕ) → (seen : ℕ → ℕ) → (host : ℕ → Due) → (states : ℕ → BlockState) → Type 0
Follows memory seen host states =
    (clock : ℕ) → states (suc clock) ≡ stepped memory (seen clock) (host clock) (states clock)

-- the place of the machine with this number
abbrev pub place_at : BlockState → ℕ → Option Slot
place_at b id = slice_index_or b.machines id None

-- what the machine with this number wants in a clock, in which it sees this and the system does this
abbrev pub intent_in : (memory : List ℕ) → (seen : ℕ) → Due → BlockState → ℕ → Intent
intent_in memory seen d b id = place_intent (view_of memory seen b) d (place_at b id)

-- the machine's side-set doesn't write this of its pins: it writes levels, or directions where its rule sends it there (RP2040
-- Datasheet, section 3.5.6)
abbrev pub passes_by : PinSignal → MachineSetup → Bool
passes_by Level s = s.side_rule.pindirs
passes_by Direction s = not s.side_rule.pindirs

-- no mapping of the machine writes this of the pin: neither that of OUT, nor that of SET, nor that of side-set, unless it writes
-- the other
abbrev pub leaves : ℕ → PinSignal → MachineSetup → Bool
leaves p signal s = not (holds s.out p) && (not (holds s.set p) && (passes_by signal s || not (holds s.side p)))

-- all machines but the one with this number leave the pin's level, or its direction
abbrev pub OthersLeave : PinSignal → (id p : ℕ) → List (Option MachineSetup) → Type 0
OthersLeave signal id p machines =
    (other : ℕ) → (other ≡ id → ⊥) → IfSome (slice_index_or machines other None) (λ s. leaves p signal s ≡ true)
