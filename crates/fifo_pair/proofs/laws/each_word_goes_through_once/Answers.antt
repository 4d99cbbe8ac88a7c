use Rattle.fifo_pair.proofs.FifoLaws.{tx_kept_on, rx_kept_on}
use Rattle.fifo_pair.proofs.laws.each_word_goes_through_once.Goals as goal

pub returns : goal.returns
returns c = record { tx = tx_kept_on; rx = rx_kept_on }
