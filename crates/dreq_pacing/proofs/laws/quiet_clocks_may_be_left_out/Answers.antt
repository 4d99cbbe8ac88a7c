use Rattle.dreq_pacing.proofs.QuietClocks.{left_out}
use Rattle.dreq_pacing.proofs.laws.quiet_clocks_may_be_left_out.Goals as goal

pub returns : goal.returns
returns c = left_out
