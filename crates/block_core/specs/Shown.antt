-- What is seen of a block's state: its sample, and what its machines ask of the system.
use Rattle.std.specs.Prelude.{◌≡◌, ℕ, true, not, Option, Some, None, map, slice_index_or, slice_set}
use Rattle.sm_registers.specs.State.{shown_of}
use Rattle.sm_registers.specs.declared.shown.Shown.{Shown}
use Rattle.dreq_pacing.specs.declared.due.Requests.{Requests}
use Rattle.block_core.specs.declared.sample.Sample.{Sample}
use Rattle.block_core.specs.Slots.{Slot}
use Rattle.block_core.specs.Block.{BlockState}

-- a place without a machine shows zeros, and asks for nothing (choice of this profile): its FIFOs are full and empty
abbrev pub nothing_shown : Shown
nothing_shown = record { tx = 0; rx = 0; tx_full = true; rx_empty = true; got = 0; sticky = 0 }

-- what is seen of a place
abbrev pub shown_in : Option Slot → Shown
shown_in None = nothing_shown
shown_in (Some s) = shown_of s.machine.ports

-- the sample of a state
unfoldable pub sample_of : BlockState → Sample
sample_of b = record {
  level = b.levels;
  direction = b.directions;
  flags = b.flags;
  tx = map (λ m. (shown_in m).tx) b.machines;
  rx = map (λ m. (shown_in m).rx) b.machines;
  got = map (λ m. (shown_in m).got) b.machines;
  sticky = map (λ m. (shown_in m).sticky) b.machines;
}

-- a sample with this seen of a place, and all else as it was
unfoldable pub with_shown : (place : ℕ) → Shown → Sample → Sample
with_shown place seen s = record s {
  tx = slice_set s.tx place seen.tx;
  rx = slice_set s.rx place seen.rx;
  got = slice_set s.got place seen.got;
  sticky = slice_set s.sticky place seen.sticky;
}

-- a sample has what is seen of a place: writing it again changes nothing
abbrev pub Shows : (place : ℕ) → Option Slot → Sample → Type 0
Shows place slot s = s ≡ with_shown place (shown_in slot) s

-- what the machines ask of the system: a word where TX isn't full, a read where RX isn't empty
unfoldable pub requests_of : BlockState → Requests
requests_of b = record {
  tx = map (λ m. not (shown_in m).tx_full) b.machines;
  rx = map (λ m. not (shown_in m).rx_empty) b.machines;
}

-- how many words transfers moved into a place's TX and out of its RX
abbrev pub moved_in : Option Slot → ℕ × ℕ
moved_in None = (0, 0)
moved_in (Some s) = (s.sent, s.received)

-- the same by the machine's number
abbrev pub moved_of : ℕ → BlockState → ℕ × ℕ
moved_of machine b = moved_in (slice_index_or b.machines machine None)
