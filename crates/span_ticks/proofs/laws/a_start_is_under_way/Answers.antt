use Rattle.span_ticks.proofs.Starting.{start_under_way}
use Rattle.span_ticks.proofs.laws.a_start_is_under_way.Goals as goal

pub returns : goal.returns
returns c = start_under_way
