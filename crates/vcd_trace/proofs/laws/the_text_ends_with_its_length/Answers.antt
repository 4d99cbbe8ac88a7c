use Rattle.vcd_trace.specs.VcdText.{vcd_form}
use Rattle.vcd_trace.proofs.FormLaws.{whole_text-ends}
use Rattle.vcd_trace.proofs.laws.the_text_ends_with_its_length.Goals as goal

pub returns : goal.returns
returns c = whole_text-ends vcd_form
