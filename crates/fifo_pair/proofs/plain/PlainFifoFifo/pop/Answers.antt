use Rattle.std.proofs.Common.{rules}
use Rattle.fifo_pair.proofs.plain.PlainFifoFifo.pop.Goals as goal

-- as the search finds it: a refused body is told at once
pub returns-clause-front : goal.returns-clause-front
returns-clause-front c = search rules steps 300000

pub returns-clause-items : goal.returns-clause-items
returns-clause-items c = search rules steps 300000
