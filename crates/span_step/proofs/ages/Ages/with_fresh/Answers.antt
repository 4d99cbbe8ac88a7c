use Rattle.std.proofs.Common.{rules}
use Rattle.span_step.proofs.ages.Ages.with_fresh.Goals as goal

-- as the search finds it; a wrong body is refused at once
pub returns-in-Empty : goal.returns-in-Empty
returns-in-Empty c = search rules
