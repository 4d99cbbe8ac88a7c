use Rattle.std.proofs.Common.{rules}
use Rattle.command_line.proofs.orders.has_no_room.Goals as goal

-- as the search finds it: a refused body is told at once
pub returns-then-from-eq-MOST_SIDE_BITS : goal.returns-then-from-eq-MOST_SIDE_BITS
returns-then-from-eq-MOST_SIDE_BITS c = search rules

pub returns-else-from-eq-MOST_SIDE_BITS : goal.returns-else-from-eq-MOST_SIDE_BITS
returns-else-from-eq-MOST_SIDE_BITS c = search rules
