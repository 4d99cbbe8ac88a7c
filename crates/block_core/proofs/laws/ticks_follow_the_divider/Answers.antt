use Rattle.block_core.proofs.Ticking.{ticks-run_at, setups-run_at}
use Rattle.block_core.proofs.laws.ticks_follow_the_divider.Goals as goal

pub returns : goal.returns
returns c = record { ticks = ticks-run_at c.tick_test.ensures; setups = setups-run_at }
