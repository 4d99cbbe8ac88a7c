-- Rows of what a tick reads, worked by hand: all pins high and a word of ones are in range, more is not.
use Rattle.std.proofs.Common.{ℕ, false, Option, Some, None, [], arith}
use Rattle.sm_registers.specs.View.{View}
use Rattle.sm_registers.specs.Queues.{Queues}
use Rattle.sm_registers.specs.Laws.{AreWordsSeen}

-- the pins are these
abbrev seeing : ℕ → View
seeing pins = record { memory = []; seen = pins; flags = record { up = 255 } }

-- TX has this word in front, or none
abbrev queueing : Option ℕ → Queues
queueing word = record { front = word; tx_level = 4; rx_level = 4; rx_full = false }

-- all 32 pins are high, and all 32 bits of the word
ones_row : AreWordsSeen (seeing 4294967295) (queueing (Some 4294967295))
ones_row = record { seen = omega arith; front = omega arith }

-- TX is empty
empty_row : AreWordsSeen (seeing 0) (queueing None)
empty_row = record { seen = omega arith; front = tt }

-- there is no pin 32
pin_row : AreWordsSeen (seeing 4294967296) (queueing None) → ⊥
pin_row are = omega (arith, are.seen)

-- no word has a bit 32
word_row : AreWordsSeen (seeing 0) (queueing (Some 4294967296)) → ⊥
word_row are = omega (arith, are.front)
