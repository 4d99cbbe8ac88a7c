use Rattle.fifo_pair.proofs.FifoLaws.{got-under}
use Rattle.fifo_pair.proofs.laws.a_read_gets_a_word_or_underruns.Goals as goal

pub returns : goal.returns
returns c = got-under
