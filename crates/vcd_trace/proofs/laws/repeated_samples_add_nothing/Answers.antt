use Rattle.vcd_trace.specs.VcdText.{vcd_form}
use Rattle.vcd_trace.proofs.FormLaws.{opened_text-held}
use Rattle.vcd_trace.proofs.ToldLaws.{repeats_add-nothing}
use Rattle.vcd_trace.proofs.laws.repeated_samples_add_nothing.Goals as goal

pub returns : goal.returns
returns c = opened_text-held vcd_form repeats_add-nothing
