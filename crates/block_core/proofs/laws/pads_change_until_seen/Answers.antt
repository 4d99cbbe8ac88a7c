use Rattle.block_core.proofs.Runs.{changes_at}
use Rattle.block_core.proofs.laws.pads_change_until_seen.Goals as goal

pub returns : goal.returns
returns c = changes_at
