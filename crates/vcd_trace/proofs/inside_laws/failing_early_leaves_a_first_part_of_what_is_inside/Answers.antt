use Rattle.vcd_trace.specs.InsideText.{inside_form}
use Rattle.vcd_trace.proofs.FormLaws.{early_part}
use Rattle.vcd_trace.proofs.inside_laws.failing_early_leaves_a_first_part_of_what_is_inside.Goals as goal

pub returns : goal.returns
returns c = λ configured. early_part (inside_form configured)
