use Rattle.std.proofs.Common.{rules}
use Rattle.span_step.specs.Courses.{delayed}
use Rattle.span_step.proofs.course.Watch.late.Goals as goal

-- as the search finds it; a wrong body is refused at once
pub returns : goal.returns
unfolding delayed
returns c = search rules
