use Rattle.std.proofs.Common.{rules}
use Rattle.command_line.proofs.orders.program_order.Goals as goal

-- as the search finds it: a refused body is told at once
pub returns-else-eq-4 : goal.returns-else-eq-4
returns-else-eq-4 c = search rules
