use Rattle.std.proofs.Common.{sym, arith}
use Rattle.span_bounds.proofs.Firsts.{AreGoodBelow-more}
use Rattle.span_bounds.proofs.answer.first_bad.Goals as goal

pub loop-number-preserved : goal.loop-number-preserved
loop-number-preserved g c = record {
  good = AreGoodBelow-more _ _ _ _ _ c.loop-number.invariant.good (sym c.in_default.ensures.value);
  steps = omega (arith, c.judged.ensures.steps, c.loop-number.invariant.steps);
}
