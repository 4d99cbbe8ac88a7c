use Rattle.dreq_pacing.proofs.QuietClocks.{quiet_due, quiet_transfers}
use Rattle.dreq_pacing.proofs.laws.a_clock_without_acts_does_nothing.Goals as goal

pub returns : goal.returns
returns c = record { due = quiet_due; transfers = quiet_transfers }
