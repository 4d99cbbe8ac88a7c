use Rattle.std.proofs.Common.{◌≡◌, drop}
use Rattle.pio_edge.specs.Puts.{Going}
use Rattle.stages.specs.Spans.{verdict_text}
use Rattle.commands.proofs.check.put_verdicts.Given as goal

-- the lines before this place were taken
abbrev pub invariant-loop-place : goal.invariant-loop-place
invariant-loop-place g l = record {
  going : Going (g.O.Sink.taken l.fn.out) (g.O.Sink.taken l.out) (verdict_text l.spans l.found) (verdict_text (drop l.place l.spans) (drop l.place l.found));
  count : g.O.Sink.faults l.out ≡ g.O.Sink.faults l.fn.out;
}
