use Rattle.std.proofs.Common.{rules}
use Rattle.span_bounds.proofs.row_step.row_step.Goals as goal

-- as the search finds it; a wrong body is refused at once
pub returns-clause-steps : goal.returns-clause-steps
returns-clause-steps g c = search rules
