use Rattle.vcd_trace.specs.InsideText.{inside_form}
use Rattle.vcd_trace.proofs.FormLaws.{opened_text-held}
use Rattle.vcd_trace.proofs.InsideSame.{inside_repeats_add-nothing}
use Rattle.vcd_trace.proofs.inside_laws.repeated_insides_add_nothing.Goals as goal

pub returns : goal.returns
returns c = λ configured. opened_text-held (inside_form configured) (inside_repeats_add-nothing configured)
