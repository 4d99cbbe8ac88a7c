-- What a machine keeps of the words that it has read.
use Rattle.std.specs.Prelude.{◌≡◌, ℕ, ◌+◌, List, [], ◌∷◌, replicate}
use Rattle.pio_encode.specs.Ranges.{IsInRange}
use Rattle.pio_encode.specs.Word.{reading_of}
use Rattle.pin_matrix.specs.declared.machine.MachineSetup.{MachineSetup}
use Rattle.sm_registers.specs.declared.decoded.Reading.{Reading}
use Rattle.sm_registers.specs.Plans.{plan_of, side_of}
use Rattle.sm_registers.specs.Tick.{next_after}

-- the machine's setup, and the word that was last read at each of the 32 addresses, and as the pending word
pub record Decoding : Type 0 where
  pub setup : MachineSetup
  pub words : List ℕ

-- the word 0 at each
abbrev pub all_zero : List ℕ
all_zero = replicate 33 0

-- the reading of a word at an address under a setup, with its operands in their ranges, and what is known of its ticks
pub record IsReading (s : MachineSetup) (address : ℕ) (r : Reading) : Type 0 where
  pub op : r.op ≡ reading_of r.word s.side_rule
  pub act : IsInRange r.op.act
  pub plan : r.plan ≡ plan_of s r.op.act
  pub side : r.side ≡ side_of s r.op.side
  pub next : r.next ≡ next_after s address

-- all of them are, from this address on
unfoldable pub AreReadings : MachineSetup → (address : ℕ) → List Reading → Type 0
AreReadings s address [] = Unit {0}
AreReadings s address (r ∷ more) = IsReading s address r × AreReadings s (address + 1) more
