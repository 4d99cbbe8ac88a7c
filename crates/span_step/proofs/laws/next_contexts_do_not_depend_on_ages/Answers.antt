use Rattle.span_step.proofs.Alike.{contexts_alike, from_edge_alike, SameAfterEdge-context_steps, OpenAlike-context_steps}
use Rattle.span_step.proofs.laws.next_contexts_do_not_depend_on_ages.Goals as goal

pub returns : goal.returns
returns c = record {
  contexts = contexts_alike;
  from_edge = from_edge_alike;
  after_edge = SameAfterEdge-context_steps;
  open_alike = OpenAlike-context_steps;
}
