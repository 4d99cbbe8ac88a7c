use Rattle.std.proofs.Common.{rules}
use Rattle.fault_lines.proofs.told.status_of.Goals as goal

-- as the search finds it; a wrong body is refused at once
pub returns-in-Some-Out : goal.returns-in-Some-Out
returns-in-Some-Out c = search rules
