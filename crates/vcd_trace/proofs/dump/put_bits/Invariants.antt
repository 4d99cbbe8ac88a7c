use Rattle.std.proofs.Common.{◌≡◌, ◌+◌, ◌-◌}
use Rattle.vcd_trace.specs.Groups.{bit_lines}
use Rattle.pio_edge.specs.Puts.{Going}
use Rattle.vcd_trace.proofs.dump.put_bits.Given as goal

-- the bits from this one on are still to be put
abbrev pub invariant-loop-step : goal.invariant-loop-step
invariant-loop-step g l = record {
  going : Going (g.S.Sink.taken l.initial.sink) (g.S.Sink.taken l.sink) (bit_lines l.first l.count l.initial.now) (bit_lines (l.first + l.step) (l.count - l.step) l.now);
  counts : g.S.Sink.faults l.sink ≡ g.S.Sink.faults l.initial.sink;
}
