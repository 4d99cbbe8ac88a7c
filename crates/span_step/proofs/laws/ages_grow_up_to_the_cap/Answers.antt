use Rattle.span_step.proofs.Aging.{AllUpTo-context_steps, AllReach-context_steps}
use Rattle.span_step.proofs.laws.ages_grow_up_to_the_cap.Goals as goal

pub returns : goal.returns
returns c = record { grow = AllReach-context_steps; cap = AllUpTo-context_steps }
