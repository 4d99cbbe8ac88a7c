use Rattle.std.proofs.Common.{◌++◌, codes}
use Rattle.pio_edge.proofs.PutLaws.{takes_on, takes_off}
use Rattle.span_texts.specs.Rows.{row_lines, table_text}
use Rattle.span_texts.proofs.writing.put_table.Goals as goal

pub returns-in_err-put-clause-bytes : goal.returns-in_err-put-clause-bytes
unfolding table_text
returns-in_err-put-clause-bytes g c =
    takes_off _ _ (codes "pio table 1\n") (row_lines c.args.table.now.rows ++ codes "end\n") c.from_residual.result c.from_residual.ensures.0 c.in_err-put.ensures.bytes

pub returns-in_err-put_rows-clause-bytes : goal.returns-in_err-put_rows-clause-bytes
unfolding table_text
returns-in_err-put_rows-clause-bytes g c =
    let r = c.from_residual-in_err-put_rows.result in
    takes_on _ _ _ (codes "pio table 1\n") (row_lines c.args.table.now.rows ++ codes "end\n") r c.in_ok-put.ensures.bytes
    (takes_off _ _ (row_lines c.args.table.now.rows) (codes "end\n") r c.from_residual-in_err-put_rows.ensures.0 c.in_err-put_rows.ensures.bytes)

pub returns-clause-bytes : goal.returns-clause-bytes
unfolding table_text
returns-clause-bytes g c =
    takes_on _ _ _ (codes "pio table 1\n") (row_lines c.args.table.now.rows ++ codes "end\n") c.put-2.result c.in_ok-put.ensures.bytes
    (takes_on _ _ _ (row_lines c.args.table.now.rows) (codes "end\n") c.put-2.result c.in_ok-put_rows.ensures.bytes c.put-2.ensures.bytes)
