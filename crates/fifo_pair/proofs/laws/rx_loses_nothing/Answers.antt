use Rattle.fifo_pair.proofs.FifoLaws.{rx_kept}
use Rattle.fifo_pair.proofs.laws.rx_loses_nothing.Goals as goal

pub returns : goal.returns
returns c = rx_kept
