use Rattle.std.proofs.Common.{rules}
use Rattle.fifo_pair.proofs.pair.room_of.Goals as goal

-- as the search finds it: a refused body is told at once
pub returns-then-joined-clause-room : goal.returns-then-joined-clause-room
returns-then-joined-clause-room c = search rules steps 300000
