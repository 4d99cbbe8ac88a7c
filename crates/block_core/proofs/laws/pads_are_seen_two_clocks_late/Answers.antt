use Rattle.block_core.proofs.Runs.{state-run_at}
use Rattle.block_core.proofs.laws.pads_are_seen_two_clocks_late.Goals as goal

pub returns : goal.returns
returns c = state-run_at
