use Rattle.std.proofs.Common.{rules}
use Rattle.fault_lines.proofs.ended.end_with.Goals as goal

-- as the search finds it; a wrong body is refused at once
pub returns-clause-told : goal.returns-clause-told
returns-clause-told g c = search rules
