use Rattle.std.proofs.Common.{rules}
use Rattle.vcd_trace.proofs.changes.has_same_rest.Goals as goal

-- as the search finds it; a wrong body is refused at once
pub returns-then-before-now-2 : goal.returns-then-before-now-2
returns-then-before-now-2 c = search rules steps 300000

pub returns-else-before-now-2 : goal.returns-else-before-now-2
returns-else-before-now-2 c = search rules steps 300000
