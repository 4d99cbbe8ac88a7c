use Rattle.std.proofs.Common.{rules}
use Rattle.dreq_pacing.proofs.blocks.share.Goals as goal

pub returns-in_ok-push-clause-second : goal.returns-in_ok-push-clause-second
returns-in_ok-push-clause-second c = search rules
