use Rattle.std.proofs.Common.{◌≡◌, arith}
use Rattle.span_bounds.proofs.Counts.{Count-all}
use Rattle.span_bounds.proofs.count.count.Goals as goal

pub returns-clause-value : goal.returns-clause-value
returns-clause-value g c =
    let all : c.loop-number.number ≡ c.end-number-end.result = omega (arith, c.loop-number-test.false, c.loop-number.auto.number-end) in
    Count-all _ _ _ _ _ c.end-number-end.result c.end-number-end.ensures.within c.requires.reach.sweep.size c.end-number-end.ensures.rest (rw all at c.loop-number.invariant.value)
