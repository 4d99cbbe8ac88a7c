use Rattle.span_check.proofs.Plain.{from_edge, to_edge}
use Rattle.span_check.proofs.laws.any_edge_is_an_event.Goals as goal

pub returns : goal.returns
returns c = record { from = from_edge; to = to_edge }
