use Rattle.std.proofs.Common.{◌≡◌, refl, sym, ap, subst, ◌∙◌}
use Rattle.sample_trace.specs.Edges.{Counts, HasCounted}
use Rattle.sample_trace.specs.Told.{held_to}
use Rattle.sample_trace.proofs.EdgeLaws.{held_counted, same_counted, sample_counted}
use Rattle.sample_trace.proofs.edges.EdgeTraceTraceSample.sample.Goals as goal

pub returns-then-sample-self-clause-ok : goal.returns-then-sample-self-clause-ok
returns-then-sample-self-clause-ok c = λ b l h n levels e.
    let before : Counts = record { first = c.self.inside.first; last = c.self.inside.last; counts = c.self.inside.counts } in
    let same : c.args.self.now ≡ before = sym c.self.view_is in
    let kept = subst (HasCounted levels (held_to c.args._clock l)) same (held_counted c.args.self.now levels c.args._clock l (h levels e)) in
    sample_counted before _ levels (held_to c.args._clock l) c.args.sample.now kept refl refl c.count.ensures

pub returns-else-sample-self-clause-ok : goal.returns-else-sample-self-clause-ok
returns-else-sample-self-clause-ok c = λ b l h n levels e.
    let kept = held_counted c.args.self.now levels c.args._clock l (h levels e) in
    let last : c.self.inside.last ≡ c.args.self.now.last = ap (λ (t : Counts). t.last) c.self.view_is in
    same_counted c.args.self.now levels (held_to c.args._clock l) c.args.sample.now kept (c.if-sample-self.false ∙ last)
