use Rattle.std.proofs.Common.{◌≡◌, ap, sym}
use Rattle.sample_trace.specs.Edges.{Counts, no_edges}
use Rattle.sample_trace.proofs.EdgeLaws.{begin_counted}
use Rattle.sample_trace.proofs.edges.EdgeTraceTraceSample.begin.Goals as goal

pub returns-clause-ok : goal.returns-clause-ok
returns-clause-ok c = λ b r levels e.
    let same : c.args.self.now.first ≡ c.self.inside.first = ap (λ (t : Counts). t.first) (sym c.self.view_is) in
    let is : c.self.inside.first ≡ levels = cc (r, e, same) in
    begin_counted _ levels (ap no_edges is)
