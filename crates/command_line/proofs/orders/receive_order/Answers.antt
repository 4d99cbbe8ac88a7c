use Rattle.std.proofs.Common.{rules}
use Rattle.command_line.proofs.orders.receive_order.Goals as goal

-- as the search finds it: a refused body is told at once
pub returns : goal.returns
returns c = search rules
