use Rattle.vcd_trace.proofs.SilenceLaws.{changes_over-some}
use Rattle.vcd_trace.proofs.laws.different_samples_have_lines.Goals as goal

pub returns : goal.returns
returns c = changes_over-some 0
