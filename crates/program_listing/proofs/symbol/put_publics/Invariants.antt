use Rattle.std.proofs.Common.{◌≡◌, drop}
use Rattle.pio_edge.specs.Puts.{Going}
use Rattle.program_listing.specs.Listing.{public_lines}
use Rattle.program_listing.proofs.symbol.put_publics.Given as goal

-- the lines of the symbols before this place were taken
abbrev pub invariant-loop-symbol : goal.invariant-loop-symbol
invariant-loop-symbol g l = record {
  going : Going (g.S.Sink.taken l.fn.sink) (g.S.Sink.taken l.sink) (public_lines l.symbols) (public_lines (drop l.symbol-index l.symbols));
  count : g.S.Sink.faults l.sink ≡ g.S.Sink.faults l.fn.sink;
}
