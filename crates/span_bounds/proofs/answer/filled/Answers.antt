use Rattle.std.proofs.Common.{rules}
use Rattle.span_bounds.proofs.answer.filled.Goals as goal

-- as the search finds it; a wrong body is refused at once
pub returns-then-is_open : goal.returns-then-is_open
returns-then-is_open c = search rules
