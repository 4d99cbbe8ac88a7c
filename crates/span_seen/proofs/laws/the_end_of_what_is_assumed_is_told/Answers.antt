use Rattle.span_seen.proofs.Ended.{measured_end}
use Rattle.span_seen.proofs.laws.the_end_of_what_is_assumed_is_told.Goals as goal

pub returns : goal.returns
returns c = measured_end
