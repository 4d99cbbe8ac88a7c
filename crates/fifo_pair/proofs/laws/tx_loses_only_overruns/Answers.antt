use Rattle.fifo_pair.proofs.FifoLaws.{tx_kept}
use Rattle.fifo_pair.proofs.laws.tx_loses_only_overruns.Goals as goal

pub returns : goal.returns
returns c = tx_kept
