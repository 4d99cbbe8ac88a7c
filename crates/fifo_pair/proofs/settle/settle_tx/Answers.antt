use Rattle.std.proofs.Common.{rules}
use Rattle.fifo_pair.proofs.settle.settle_tx.Goals as goal

-- as the search finds it: a refused body is told at once
pub push-requires : goal.push-requires
push-requires g c = search rules steps 300000

pub returns-in-Some-clause-items : goal.returns-in-Some-clause-items
returns-in-Some-clause-items g c = search rules steps 300000

pub returns-in-Some-clause-room : goal.returns-in-Some-clause-room
returns-in-Some-clause-room g c = search rules steps 300000

pub returns-in-Some-clause-over : goal.returns-in-Some-clause-over
returns-in-Some-clause-over g c = search rules steps 300000

pub returns-in-Some-2-clause-items : goal.returns-in-Some-2-clause-items
returns-in-Some-2-clause-items g c = search rules steps 300000

pub returns-in-Some-2-clause-room : goal.returns-in-Some-2-clause-room
returns-in-Some-2-clause-room g c = search rules steps 300000

pub returns-in-Some-2-clause-over : goal.returns-in-Some-2-clause-over
returns-in-Some-2-clause-over g c = search rules steps 300000
