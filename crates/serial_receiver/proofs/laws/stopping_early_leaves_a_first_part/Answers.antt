use Rattle.serial_receiver.proofs.Growing.{first_part}
use Rattle.serial_receiver.proofs.laws.stopping_early_leaves_a_first_part.Goals as goal

pub returns : goal.returns
returns c = first_part
