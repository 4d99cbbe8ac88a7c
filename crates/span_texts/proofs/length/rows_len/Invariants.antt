use Rattle.std.proofs.Common.{◌≡◌, ◌+◌, ◌*◌, ◌^◌, ◌≤◌, length}
use Rattle.span_texts.specs.Rows.{row_lines}
use Rattle.span_texts.proofs.length.rows_len.Given as goal

-- the bytes of the rows before those that are left
abbrev pub invariant-loop-row : goal.invariant-loop-row
invariant-loop-row l = record {
  whole : l.len + length (row_lines l.rest) ≡ length (row_lines l.fn.rows);
  few : l.len + 256 * length l.rest ≤ 2 ^ 48;
}

abbrev pub decreases-loop-row : goal.decreases-loop-row
decreases-loop-row l = length l.rest
