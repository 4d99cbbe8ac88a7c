use Rattle.vcd_trace.specs.VcdText.{vcd_form}
use Rattle.vcd_trace.proofs.FormLaws.{early_part}
use Rattle.vcd_trace.proofs.laws.failing_early_leaves_a_first_part.Goals as goal

pub returns : goal.returns
returns c = early_part vcd_form
