use Rattle.std.proofs.Common.{◌≡◌, length}
use Rattle.pio_edge.specs.Puts.{Going}
use Rattle.span_texts.specs.Rows.{row_lines}
use Rattle.span_texts.proofs.writing.put_rows.Given as goal

-- the lines of the rows before those that are left were taken
abbrev pub invariant-loop-row : goal.invariant-loop-row
invariant-loop-row g l = record {
  going : Going (g.S.Sink.taken l.fn.sink) (g.S.Sink.taken l.sink) (row_lines l.table.rows) (row_lines l.rows);
  count : g.S.Sink.faults l.sink ≡ g.S.Sink.faults l.fn.sink;
}

abbrev pub decreases-loop-row : goal.decreases-loop-row
decreases-loop-row g l = length l.rows
