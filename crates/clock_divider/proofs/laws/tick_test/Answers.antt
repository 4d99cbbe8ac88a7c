-- The law of the test.
use Rattle.clock_divider.proofs.TickLaws.{is_tick-iff}
use Rattle.clock_divider.proofs.laws.tick_test.Goals as goal

pub returns : goal.returns
returns c = is_tick-iff
