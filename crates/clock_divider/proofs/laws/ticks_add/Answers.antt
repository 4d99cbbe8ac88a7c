-- Counts of ticks add up.
use Rattle.clock_divider.proofs.TickLaws.{tick_count-add}
use Rattle.clock_divider.proofs.laws.ticks_add.Goals as goal

pub returns : goal.returns
returns c = tick_count-add
