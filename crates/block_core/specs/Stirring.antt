-- Which clocks of a run stir: something moves in them, or is about to.
--   machines_stir_over      a machine begins or finishes an instruction, or refills its OSR
--   pads_change_over, pads_change   the pads are not those of both clocks before
--   moves_on_over, moves_on        one of these
--   begins_now              the machine of a place begins an instruction
--   begins_or_changes       the pads change, or a machine begins an instruction
--   stirs_over, stirs_in    one of these, or the system acts
--   stirring                how many of the first clocks stir
--   worked                  how many of the first clocks are worked out singly: clock 0, and those that pass a test
-- A word that ends in `over` is of given pads; its fellow is of the block's own.
use Rattle.std.specs.Prelude.{ℕ, zero, suc, ◌+◌, ◌==◌, Bool, false, not, ◌&&◌, ◌||◌, Option, Some, None, List, if◌then◌else◌}
use Rattle.std.specs.List.{list_any}
use Rattle.sm_registers.specs.Idling.{stirs, begins_next}
use Rattle.dreq_pacing.specs.declared.line.Line.{Line}
use Rattle.dreq_pacing.specs.declared.due.Due.{Due}
use Rattle.dreq_pacing.specs.Due.{quiet}
use Rattle.dreq_pacing.specs.Ports.{acts_in}
use Rattle.block_core.specs.Block.{Run, wanted_over, pads_in}
use Rattle.block_core.specs.Hosted.{Hosted, due_of, hosted_at}
use Rattle.block_core.specs.Shown.{requests_of}
use Rattle.block_core.specs.Slots.{Slot, has_tick}

-- some machine has a tick in which it begins or finishes an instruction, or refills its OSR
abbrev pub machines_stir_over : (pad : ℕ) → Due → Run → Bool
machines_stir_over pad d r = list_any stirs (wanted_over pad d r)

-- the pads of the clock, of the one before it and of the one before that are not all the same, so that what machines see may
-- change (RP2040 Datasheet, section 3.5.6.3)
abbrev pub pads_change_over : (pad : ℕ) → Run → Bool
pads_change_over pad r = not ((pad == r.synchroniser.pad_1) && (pad == r.synchroniser.pad_2))

-- the same of the pads of the clock
abbrev pub pads_change : Due → Run → Bool
pads_change d r = pads_change_over (pads_in d r.state) r

-- the clock moves the block on: its machines stir, or its pads change
abbrev pub moves_on_over : (pad : ℕ) → Due → Run → Bool
moves_on_over pad d r = machines_stir_over pad d r || pads_change_over pad r

-- The same with the pads of the clock.
unfoldable pub moves_on : Due → Run → Bool
moves_on d r = moves_on_over (pads_in d r.state) d r

-- the clock is a tick in which the machine of a place begins an instruction, if no line acts in it
abbrev pub begins_now : Option Slot → Bool
begins_now None = false
begins_now (Some s) = has_tick s && begins_next s.machine.registers

-- The clock moves the block on, whatever the machines see in it: its pads change, or a machine begins an instruction.
unfoldable pub begins_or_changes : Run → Bool
begins_or_changes r = pads_change quiet r || list_any begins_now r.state.machines

-- The clock stirs: a line acts, a transfer's word moves, a machine stirs, or the pads change (choice of this profile).
abbrev pub stirs_over : (pad : ℕ) → List Line → Hosted → Bool
stirs_over pad lines h =
    acts_in lines h.run.clock (requests_of h.run.state) h.transfers || moves_on_over pad (due_of lines h) h.run

-- The same with the pads of the clock.
unfoldable pub stirs_in : List Line → Hosted → Bool
stirs_in lines h =
    acts_in lines h.run.clock (requests_of h.run.state) h.transfers || moves_on (due_of lines h) h.run

-- how many of the first n clocks of a run with a stimulus stir
unfoldable pub stirring : Run → List Line → ℕ → ℕ
stirring start lines zero = 0
stirring start lines (suc n) = stirring start lines n + (if stirs_in lines (hosted_at start lines n) then 1 else 0)

-- how many of the first n clocks are clock 0 or pass a test
unfoldable pub worked : (ℕ → Bool) → ℕ → ℕ
worked test zero = 0
worked test (suc n) = worked test n + (if n == 0 || test n then 1 else 0)
