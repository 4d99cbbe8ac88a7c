use Rattle.std.proofs.Common.{◌≡◌, ◌+◌}
use Rattle.vcd_trace.specs.VcdText.{declarations, variables}
use Rattle.vcd_trace.proofs.HeaderLaws.{groups_text, count_from}
use Rattle.pio_edge.specs.Puts.{Going}
use Rattle.vcd_trace.proofs.header.put_declarations.Given as goal

-- the declarations of the groups from this one on are still to be put
abbrev pub invariant-loop-group : goal.invariant-loop-group
invariant-loop-group g l = record {
  going : Going (g.S.Sink.taken l.initial.sink) (g.S.Sink.taken l.sink) (declarations l.first variables) (groups_text l.id l.group-items l.group-index);
  counts : g.S.Sink.faults l.sink ≡ g.S.Sink.faults l.initial.sink;
  room : l.id + count_from l.group-items l.group-index ≡ l.first + 88;
}
