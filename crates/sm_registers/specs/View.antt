-- What a machine sees of its block in a clock.
--   View       the memory, the pins and the flags
--   view_of    that of what the machines share, with the pads of the clock
use Rattle.std.specs.Prelude.{ℕ, List}
use Rattle.irq_flags.specs.declared.flags.Flags.{Flags}
use Rattle.pin_matrix.specs.Pads.{seen_of}
use Rattle.sm_registers.specs.declared.view.Shared.{Shared}

-- the instruction memory; the pins after their input synchronisers, bit i that of pin i; the interrupt flags
pub record View : Type 0 where
  pub memory : List ℕ
  pub seen : ℕ
  pub flags : Flags

-- the pins are those of two clocks ago, or of now where a pin bypasses its synchroniser (RP2040 Datasheet, section 3.5.6.3)
abbrev pub view_of : Shared → (pad : ℕ) → View
view_of s pad = record { memory = s.memory; seen = seen_of s.sync.bypass pad s.sync.pad_2; flags = s.flags }
