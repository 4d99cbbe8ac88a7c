use Rattle.std.proofs.Common.{rules}
use Rattle.vcd_trace.proofs.changes.has_same_words.Goals as goal

-- as the search finds it; a wrong body is refused at once
pub returns-then-eq : goal.returns-then-eq
returns-then-eq c = search rules steps 300000

pub returns-else-eq : goal.returns-else-eq
returns-else-eq c = search rules steps 300000
