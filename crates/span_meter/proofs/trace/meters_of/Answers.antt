use Rattle.std.proofs.Common.{◌∙◌, arith}
use Rattle.span_meter.proofs.Telling.{all_watched, more_fresh, more_watched}
use Rattle.span_meter.proofs.trace.meters_of.Goals as goal

pub loop-span-preserved : goal.loop-span-preserved
loop-span-preserved c =
    let i = c.loop-span.invariant in
    record {
      fresh = more_fresh _ _ c.of.result c.new.result c.in_ok-push.ensures.items c.new.ensures i.fresh;
      watches = more_watched _ _ c.of.result c.new.result c.args.spans.now c.loop-span.span-index c.span-item.result c.in_ok-push.ensures.items c.new.ensures c.of.ensures c.span-item.is (omega arith) i.watches;
    }

pub returns : goal.returns
returns c = (c.loop-span.invariant.fresh, c.loop-span.invariant.watches ∙ all_watched c.args.spans.now c.loop-span.span-index (omega arith))
