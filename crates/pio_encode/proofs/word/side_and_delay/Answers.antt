-- A delay alone is within five bits.
use Rattle.std.proofs.Common.{arith}
use Rattle.pio_encode.proofs.word.side_and_delay.Goals as goal
use Rattle.pio_encode.proofs.Shares.{below_power}

pub returns-in-None-clause-range : goal.returns-in-None-clause-range
returns-in-None-clause-range c = below_power _ 5 _ (omega arith) c.requires.delay
