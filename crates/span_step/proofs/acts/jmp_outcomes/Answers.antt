use Rattle.std.proofs.Common.{rules}
use Rattle.span_step.proofs.acts.jmp_outcomes.Goals as goal

-- as the search finds it; a wrong body is refused at once
pub returns-in-None : goal.returns-in-None
returns-in-None c = search rules
