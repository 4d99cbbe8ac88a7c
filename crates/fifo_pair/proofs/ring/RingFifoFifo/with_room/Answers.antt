use Rattle.std.proofs.Common.{rules}
use Rattle.fifo_pair.proofs.ring.RingFifoFifo.with_room.Goals as goal

-- as the search finds it: a refused body is told at once
pub returns-clause-room : goal.returns-clause-room
returns-clause-room c = search rules steps 300000
