use Rattle.std.proofs.Common.{◌≡◌, flat_map, drop}
use Rattle.pio_edge.specs.Puts.{Going}
use Rattle.pio_edge.proofs.puts.put_all.Given as goal

abbrev pub invariant-loop-piece : goal.invariant-loop-piece
invariant-loop-piece g l = record {
  going : Going (g.S.Sink.taken l.fn.sink) (g.S.Sink.taken l.sink) (flat_map (λ p. p.now) l.pieces) (flat_map (λ p. p.now) (drop l.piece-index l.pieces));
  count : g.S.Sink.faults l.sink ≡ g.S.Sink.faults l.fn.sink;
}
