use Rattle.std.proofs.Common.{◌≡◌, take}
use Rattle.pio_uart.proofs.feeding.words_of.Given as goal

-- the bytes so far
abbrev pub invariant-loop-byte : goal.invariant-loop-byte
invariant-loop-byte l = l.words.items ≡ take l.byte-index l.bytes
