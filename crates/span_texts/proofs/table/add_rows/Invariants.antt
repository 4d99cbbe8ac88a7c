use Rattle.std.proofs.Common.{◌≡◌, ◌+◌, ◌≤◌, length}
use Rattle.std.specs.Prelude.{option_copied}
use Rattle.byte_lines.specs.Lines.{lines_of, lines_left, left_size}
use Rattle.span_texts.specs.Reading.{rows_from}
use Rattle.span_texts.proofs.Goings.{going_from, AllBelow}
use Rattle.span_texts.proofs.table.add_rows.Given as goal

-- the rows so far, and what the lines that are left add to them
abbrev pub invariant-loop-rest : goal.invariant-loop-rest
invariant-loop-rest l = record {
  whole : going_from l.follow l.table.rows l.number l.least (lines_left (option_copied l.rest)) ≡ rows_from l.follow 2 0 (lines_of l.text);
  below : AllBelow l.follow l.least l.table.rows;
  same : l.table.follow ≡ l.follow;
  old : l.follow ≡ l.fn.table.follow;
  counted : l.number + left_size (option_copied l.rest) ≤ length l.text + 3;
}

abbrev pub decreases-loop-rest : goal.decreases-loop-rest
decreases-loop-rest l = left_size (option_copied l.rest)
