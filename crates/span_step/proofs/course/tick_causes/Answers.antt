use Rattle.std.proofs.Common.{rules}
use Rattle.span_step.proofs.course.tick_causes.Goals as goal

-- as the search finds it; a wrong body is refused at once
pub returns-then-not-rules : goal.returns-then-not-rules
returns-then-not-rules c = search rules
