use Rattle.block_core.proofs.Ticking.{ticks-states, setups-states}
use Rattle.block_core.proofs.following.ticks_follow_the_divider_over_any_pads.Goals as goal

pub returns : goal.returns
returns c = record { ticks = ticks-states c.tick_test.ensures; setups = setups-states }
