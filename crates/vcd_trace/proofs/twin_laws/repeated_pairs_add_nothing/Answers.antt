use Rattle.vcd_trace.specs.TwinText.{twin_form}
use Rattle.vcd_trace.proofs.FormLaws.{opened_text-held}
use Rattle.vcd_trace.proofs.ToldLaws.{twin_repeats_add-nothing}
use Rattle.vcd_trace.proofs.twin_laws.repeated_pairs_add_nothing.Goals as goal

pub returns : goal.returns
returns c = opened_text-held twin_form twin_repeats_add-nothing
