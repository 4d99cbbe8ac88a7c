use Rattle.std.proofs.Common.{◌≡◌, ◌+◌, ◌-◌}
use Rattle.vcd_trace.specs.VcdText.{declarations, numbered}
use Rattle.pio_edge.specs.Puts.{Going}
use Rattle.vcd_trace.proofs.header.put_group.Given as goal

-- the declarations from this one on are still to be put
abbrev pub invariant-loop-number : goal.invariant-loop-number
invariant-loop-number g l = record {
  going : Going (g.S.Sink.taken l.initial.sink) (g.S.Sink.taken l.sink) (declarations l.first (numbered l.letter l.width 0 l.count)) (declarations (l.first + l.number) (numbered l.letter l.width l.number (l.count - l.number)));
  counts : g.S.Sink.faults l.sink ≡ g.S.Sink.faults l.initial.sink;
}
