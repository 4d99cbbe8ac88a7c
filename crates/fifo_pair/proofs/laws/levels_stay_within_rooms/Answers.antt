use Rattle.fifo_pair.proofs.FifoLaws.{fits-settled}
use Rattle.fifo_pair.proofs.laws.levels_stay_within_rooms.Goals as goal

pub returns : goal.returns
returns c = λ e f may fits. fits-settled e.take e.machine_word e.system_word e.system_read f fits may.word
