use Rattle.std.proofs.Common.{rules}
use Rattle.vcd_trace.proofs.twin_vcd.are_same.Goals as goal

-- as the search finds it; a wrong body is refused at once
pub returns-then-is_same : goal.returns-then-is_same
returns-then-is_same c = search rules steps 300000

pub returns-else-is_same : goal.returns-else-is_same
returns-else-is_same c = search rules steps 300000
