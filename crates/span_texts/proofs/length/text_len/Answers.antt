use Rattle.std.proofs.Common.{◌^◌, ◌<◌, arith}
use Rattle.span_texts.proofs.Lengths.{few_rows}
use Rattle.span_texts.proofs.length.text_len.Goals as goal

pub rows_len-requires : goal.rows_len-requires
rows_len-requires c =
    let t = c.args.table.now in
    let x : c.follow-follow.result.x < 2 ^ 16 = omega arith in
    let y : c.follow-follow.result.y < 2 ^ 16 = omega arith in
    rw c.rows-rows.ensures.rows
    (few_rows c.each_context_has_its_number.ensures.below t.follow t.rows (rw c.follow-follow.ensures at x) (rw c.follow-follow.ensures at y) c.rows-rows.ensures.table)
