use Rattle.vcd_trace.specs.TwinText.{twin_form}
use Rattle.vcd_trace.proofs.FormLaws.{whole_text-ends}
use Rattle.vcd_trace.proofs.twin_laws.the_text_of_two_ends_with_its_length.Goals as goal

pub returns : goal.returns
returns c = whole_text-ends twin_form
