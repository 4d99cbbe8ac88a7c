use Rattle.std.proofs.Common.{◌≡◌, ◌++◌, ap, ◌∙◌}
use Rattle.pio_edge.proofs.PutLaws.{takes_failed, going_on}
use Rattle.span_texts.specs.Rows.{row_line, row_lines}
use Rattle.span_texts.proofs.writing.put_rows.Goals as goal

pub loop-row-preserved : goal.loop-row-preserved
loop-row-preserved g c =
    let next : row_lines c.loop-row.rows ≡ row_line c.in-Some.row ++ row_lines c.next.new.self = ap row_lines c.in-Some.ensures.steps in
    record {
      going = going_on _ _ _ _ _ _ _ c.loop-row.invariant.going next c.in_ok-put_row.ensures.bytes;
      count = c.in_ok-put_row.ensures.cause.ok ∙ c.loop-row.invariant.count;
    }

pub returns-in_err-put_row-clause-bytes : goal.returns-in_err-put_row-clause-bytes
returns-in_err-put_row-clause-bytes g c =
    let next : row_lines c.loop-row.rows ≡ row_line c.in-Some.row ++ row_lines c.next.new.self = ap row_lines c.in-Some.ensures.steps in
    takes_failed _ _ _ _ _ _ _ c.from_residual.result c.loop-row.invariant.going next c.from_residual.ensures.0 c.in_err-put_row.ensures.bytes
