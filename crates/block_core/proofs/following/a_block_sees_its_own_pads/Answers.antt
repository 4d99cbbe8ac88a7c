use Rattle.block_core.proofs.Runs.{run_follows, hosted_follows}
use Rattle.block_core.proofs.following.a_block_sees_its_own_pads.Goals as goal

pub returns : goal.returns
returns c = record { run = run_follows; hosted = hosted_follows }
