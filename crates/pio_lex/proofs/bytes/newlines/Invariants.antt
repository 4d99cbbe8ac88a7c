use Rattle.std.proofs.Common.{◌≡◌, ◌≤◌, take}
use Rattle.std.specs.List.{count_by}
use Rattle.pio_lex.specs.Bytes.{is_newline}
use Rattle.pio_lex.proofs.bytes.newlines.Given as goal

abbrev pub invariant-loop-byte : goal.invariant-loop-byte
invariant-loop-byte l = (l.count ≡ count_by is_newline (take l.byte-index l.text)) × (l.count ≤ l.byte-index)
