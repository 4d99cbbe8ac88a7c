-- The words that a machine's TX accepts in a run.
--   accepted_in      in a clock
--   accepted         in the first clocks of a run with a stimulus
use Rattle.std.specs.Prelude.{ℕ, zero, suc, Option, Some, None, option_to_list, List, [], ◌++◌, slice_index_or}
use Rattle.fifo_pair.specs.Fifos.{if_room}
use Rattle.dreq_pacing.specs.declared.due.Due.{Due}
use Rattle.dreq_pacing.specs.declared.line.Line.{Line}
use Rattle.block_core.specs.Slots.{Slot}
use Rattle.block_core.specs.Block.{Run}
use Rattle.block_core.specs.Following.{place_at}
use Rattle.block_core.specs.Hosted.{hosted_at, host_of}

-- The word that the system writes to a machine's TX in a clock, if any, where TX isn't full at the clock's start: one
-- that comes to a full TX is lost (RP2040 Datasheet, section 3.7, FDEBUG.TXOVER).
abbrev pub accepted_in : Due → Option Slot → Option ℕ
accepted_in d None = None
accepted_in d (Some m) =
    let fifos = m.machine.ports.fifos in if_room fifos.tx_room fifos.tx (slice_index_or d.word m.machine.setup.id None)

-- the words that the TX of the machine with this number accepts in the first n clocks of a run with these lines, in
-- order
unfoldable pub accepted : Run → List Line → (id n : ℕ) → List ℕ
accepted start lines id zero = []
accepted start lines id (suc n) =
    accepted start lines id n
    ++ option_to_list (accepted_in (host_of start lines n) (place_at (hosted_at start lines n).run.state id))
