use Rattle.span_meter.proofs.PlainSpans.{plain_measures}
use Rattle.span_meter.proofs.laws.a_plain_span_measures_every_pair.Goals as goal

pub returns : goal.returns
returns c = plain_measures
