use Rattle.stages.proofs.Judging.{judged_next}
use Rattle.stages.proofs.spans.judge_spans.Goals as goal

pub loop-place-preserved : goal.loop-place-preserved
loop-place-preserved c =
    judged_next _ c.as_slice-spans.result.now c.loop-place.place _ _ _ _ c.index-spans-place.result c.loop-place-test.true c.index-spans-place.is c.loop-place.invariant c.in_ok-judge_next.ensures
