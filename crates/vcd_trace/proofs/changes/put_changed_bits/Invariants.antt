use Rattle.std.proofs.Common.{◌≡◌, ◌^◌, ◌<◌, bit_xor}
use Rattle.vcd_trace.specs.Groups.{bit_changes}
use Rattle.pio_edge.specs.Puts.{Going}
use Rattle.vcd_trace.proofs.changes.put_changed_bits.Given as goal

-- the bits that are left are still to be put
abbrev pub invariant-loop-changed : goal.invariant-loop-changed
invariant-loop-changed g l = record {
  going : Going (g.S.Sink.taken l.initial.sink) (g.S.Sink.taken l.sink) (bit_changes l.first l.count l.before l.now) (bit_changes l.first l.count (bit_xor l.changed l.now) l.now);
  counts : g.S.Sink.faults l.sink ≡ g.S.Sink.faults l.initial.sink;
  within : l.changed < 2 ^ l.count;
}

abbrev pub decreases-loop-changed : goal.decreases-loop-changed
decreases-loop-changed g l = l.changed
