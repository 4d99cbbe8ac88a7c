use Rattle.std.proofs.Common.{◌≤◌, vec_len}
use Rattle.pio_edge.proofs.file_shelf.read_capped.Given as goal

abbrev pub invariant-loop : goal.invariant-loop
invariant-loop g l = vec_len l.bytes ≤ l.cap
