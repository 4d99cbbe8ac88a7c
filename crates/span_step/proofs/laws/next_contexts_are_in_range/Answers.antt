use Rattle.span_step.proofs.Placed.{AllPlaced-context_steps}
use Rattle.span_step.proofs.laws.next_contexts_are_in_range.Goals as goal

pub returns : goal.returns
returns c = AllPlaced-context_steps
