use Rattle.std.proofs.Common.{◌≡◌, drop}
use Rattle.pio_edge.specs.Puts.{Going}
use Rattle.vcd_trace.specs.InsideText.{machine_scopes}
use Rattle.vcd_trace.proofs.inside_header.put_machines.Given as goal

-- the scopes of the machines from this one on are still to be put
abbrev pub invariant-loop-place : goal.invariant-loop-place
invariant-loop-place g l = record {
  going : Going (g.S.Sink.taken l.initial.sink) (g.S.Sink.taken l.sink) (machine_scopes 0 l.configured) (machine_scopes l.place (drop l.place l.configured));
  counts : g.S.Sink.faults l.sink ≡ g.S.Sink.faults l.initial.sink;
}
