use Rattle.std.proofs.Common.{◌≡◌, drop}
use Rattle.pio_edge.specs.Puts.{Going}
use Rattle.commands.specs.Metered.{seen_lines, seen_of_each}
use Rattle.commands.proofs.measured_lines.put_lines.Given as goal

-- the lines before this place were taken
abbrev pub invariant-loop-place : goal.invariant-loop-place
invariant-loop-place g l = record {
  going : Going (g.O.Sink.taken l.fn.out) (g.O.Sink.taken l.out) (seen_lines l.spans (seen_of_each l.meter)) (seen_lines (drop l.place l.spans) (drop l.place (seen_of_each l.meter)));
  count : g.O.Sink.faults l.out ≡ g.O.Sink.faults l.fn.out;
}
