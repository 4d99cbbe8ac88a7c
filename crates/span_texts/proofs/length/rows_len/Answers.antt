use Rattle.std.proofs.Common.{length, ap, ◌∙◌, arith}
use Rattle.span_texts.specs.Rows.{row_lines}
use Rattle.span_texts.proofs.Lengths.{lines_len}
use Rattle.span_texts.proofs.length.rows_len.Goals as goal

pub loop-row-preserved : goal.loop-row-preserved
loop-row-preserved c =
    let l = c.loop-row in
    let next = ap (λ rs. length (row_lines rs)) c.in-Some.ensures.steps ∙ lines_len c.in-Some.row c.next.new.self in
    let fewer = ap length c.in-Some.ensures.steps in
    record {
      whole = omega (arith, next, l.invariant.whole, c.context_len.ensures.value, c.ages_len.ensures.value);
      few = omega (arith, fewer, l.invariant.few, c.context_len.ensures.fits, c.ages_len.ensures.fits);
    }
