use Rattle.span_step.proofs.Wider.{IsNarrower-context_steps}
use Rattle.span_step.proofs.laws.a_step_is_monotone.Goals as goal

pub returns : goal.returns
returns c = IsNarrower-context_steps
