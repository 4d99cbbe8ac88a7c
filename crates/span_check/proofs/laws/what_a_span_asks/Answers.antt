use Rattle.span_check.proofs.Asking.{asks_between, asks_least, asks_more}
use Rattle.span_check.proofs.laws.what_a_span_asks.Goals as goal

pub returns : goal.returns
returns c = record { bounded = asks_between; unbounded = asks_least; more = asks_more }
