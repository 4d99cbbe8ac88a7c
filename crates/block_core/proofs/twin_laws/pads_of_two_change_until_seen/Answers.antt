use Rattle.block_core.proofs.TwinRuns.{changes_at_both}
use Rattle.block_core.proofs.twin_laws.pads_of_two_change_until_seen.Goals as goal

pub returns : goal.returns
returns c = changes_at_both
