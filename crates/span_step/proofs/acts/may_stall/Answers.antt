use Rattle.std.proofs.Common.{rules}
use Rattle.span_step.specs.Outcomes.{may_stall}
use Rattle.span_step.proofs.acts.may_stall.Goals as goal

-- as the search finds it; a wrong body is refused at once
pub returns-in-Push : goal.returns-in-Push
unfolding may_stall
returns-in-Push c = search rules
