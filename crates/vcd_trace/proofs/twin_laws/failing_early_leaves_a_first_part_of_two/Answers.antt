use Rattle.vcd_trace.specs.TwinText.{twin_form}
use Rattle.vcd_trace.proofs.FormLaws.{early_part}
use Rattle.vcd_trace.proofs.twin_laws.failing_early_leaves_a_first_part_of_two.Goals as goal

pub returns : goal.returns
returns c = early_part twin_form
