use Rattle.std.proofs.Common.{◌≡◌, map, drop}
use Rattle.pio_edge.specs.Puts.{Going}
use Rattle.pio_assemble.specs.Program.{assembled_of}
use Rattle.program_listing.specs.Listing.{listing_text}
use Rattle.program_listing.proofs.listing.put_listing.Given as goal

-- the texts of the programs before this place were taken
abbrev pub invariant-loop-program : goal.invariant-loop-program
invariant-loop-program g l = record {
  going : Going (g.S.Sink.taken l.fn.sink) (g.S.Sink.taken l.sink) (listing_text (map assembled_of l.programs)) (listing_text (map assembled_of (drop l.program-index l.programs)));
  count : g.S.Sink.faults l.sink ≡ g.S.Sink.faults l.fn.sink;
}
