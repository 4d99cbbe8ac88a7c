use Rattle.sample_trace.proofs.EdgeLaws.{held_counted}
use Rattle.sample_trace.proofs.edges.EdgeTraceTraceSample.end.Goals as goal

pub returns-clause-ok : goal.returns-clause-ok
returns-clause-ok c = λ b l h n levels e. held_counted c.args.self.now levels c.args._clock l (h levels e)
