use Rattle.std.proofs.Common.{rules}
use Rattle.fifo_pair.proofs.pair.Pair.tx_front.Goals as goal

-- as the search finds it: a refused body is told at once
pub returns : goal.returns
returns g c = search rules steps 300000
