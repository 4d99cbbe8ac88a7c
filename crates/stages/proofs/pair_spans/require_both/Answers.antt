use Rattle.stages.proofs.Paired.{asked_both}
use Rattle.stages.proofs.pair_spans.require_both.Goals as goal

pub returns : goal.returns
returns c =
    let law = c.a_provable_span_holds_in_every_pair.ensures in
    asked_both law.first law.second c.args.first.now c.args.second.now c.require_second.result c.requires.first c.requires.second
    c.in_ok-require_spans.ensures.0 c.require_second.ensures
