use Rattle.std.proofs.Common.{arith}
use Rattle.span_meter.proofs.Telling.{held_measured}
use Rattle.span_meter.proofs.trace.SpanMeterTraceSample.end.Goals as goal

pub returns-clause-ok : goal.returns-clause-ok
returns-clause-ok c = λ b l h n pins ends e. held_measured pins ends l c.args.self.now c.args._clock (omega arith) n (h pins ends e)
