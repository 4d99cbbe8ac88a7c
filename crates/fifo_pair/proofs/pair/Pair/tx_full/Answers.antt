use Rattle.std.proofs.Common.{rules}
use Rattle.fifo_pair.proofs.pair.Pair.tx_full.Goals as goal

-- as the search finds it: a refused body is told at once
pub returns-clause-full : goal.returns-clause-full
returns-clause-full g c = search rules steps 300000

pub returns-clause-capacity : goal.returns-clause-capacity
returns-clause-capacity g c = search rules steps 300000
