use Rattle.std.proofs.Common.{◌≡◌, drop}
use Rattle.pio_edge.specs.Puts.{Going}
use Rattle.vcd_trace.specs.InsideText.{machines_lines}
use Rattle.vcd_trace.proofs.inside_dump.put_machines.Given as goal

-- the values of the machines from this one on are still to be put
abbrev pub invariant-loop-place : goal.invariant-loop-place
invariant-loop-place g l = record {
  going : Going (g.S.Sink.taken l.initial.sink) (g.S.Sink.taken l.sink) (machines_lines 0 l.machines) (machines_lines l.place (drop l.place l.machines));
  counts : g.S.Sink.faults l.sink ≡ g.S.Sink.faults l.initial.sink;
}
