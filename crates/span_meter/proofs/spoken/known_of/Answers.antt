use Rattle.std.proofs.Common.{ap, ◌∙◌, ◌+◌, ◌∷◌, [], length, length-append, arith}
use Rattle.span_meter.proofs.SpokenTrace.{more_fresh}
use Rattle.span_meter.proofs.spoken.known_of.Goals as goal

pub loop-span-preserved : goal.loop-span-preserved
loop-span-preserved c =
    let i = c.loop-span.invariant in
    let many = i.many in
    let items = c.in_ok-push.ensures.items in
    record {
      fresh = more_fresh _ _ c.of.result c.new.result items c.new.ensures i.fresh;
      many = ap length items ∙ length-append c.loop-span.known.items (c.new.result ∷ []) ∙ ap (λ n. n + 1) many;
    }

pub returns : goal.returns
returns c = let many = c.loop-span.invariant.many in (c.loop-span.invariant.fresh, omega arith)
