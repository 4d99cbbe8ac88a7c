use Rattle.std.proofs.Common.{◌≡◌}
use Rattle.pio_edge.specs.Puts.{Going}
use Rattle.vcd_trace.specs.VcdText.{declarations}
use Rattle.vcd_trace.specs.InsideText.{machine_variables}
use Rattle.vcd_trace.proofs.InsideLaws.{named_text}
use Rattle.vcd_trace.proofs.inside_header.put_machine_variables.Given as goal

-- the declarations from this one on are still to be put
abbrev pub invariant-loop-number : goal.invariant-loop-number
invariant-loop-number g l = record {
  going : Going (g.S.Sink.taken l.initial.sink) (g.S.Sink.taken l.sink) (declarations l.first machine_variables) (named_text l.first l.number);
  counts : g.S.Sink.faults l.sink ≡ g.S.Sink.faults l.initial.sink;
}
