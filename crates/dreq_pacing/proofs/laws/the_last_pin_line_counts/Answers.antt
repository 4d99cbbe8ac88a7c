use Rattle.dreq_pacing.proofs.PinLines.{last_set, last_counts}
use Rattle.dreq_pacing.proofs.laws.the_last_pin_line_counts.Goals as goal

pub returns : goal.returns
returns c = record { set = last_set; level = last_counts }
