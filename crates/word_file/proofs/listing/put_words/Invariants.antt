use Rattle.std.proofs.Common.{◌≡◌, drop}
use Rattle.pio_edge.specs.Puts.{Going}
use Rattle.word_file.specs.Listing.{word_lines, lines_from}
use Rattle.word_file.proofs.listing.put_words.Given as goal

-- the lines before this place were taken
abbrev pub invariant-loop-place : goal.invariant-loop-place
invariant-loop-place g l = record {
  going : Going (g.S.Sink.taken l.fn.sink) (g.S.Sink.taken l.sink) (word_lines l.rule l.words) (lines_from l.rule l.place (drop l.place l.words));
  count : g.S.Sink.faults l.sink ≡ g.S.Sink.faults l.fn.sink;
}
