use Rattle.vcd_trace.specs.InsideText.{inside_form}
use Rattle.vcd_trace.proofs.FormLaws.{whole_text-ends}
use Rattle.vcd_trace.proofs.inside_laws.the_text_of_what_is_inside_ends_with_its_length.Goals as goal

pub returns : goal.returns
returns c = λ configured. whole_text-ends (inside_form configured)
