use Rattle.vcd_trace.specs.TextForm.{added, last_told}
use Rattle.vcd_trace.specs.TwinText.{twin_form}
use Rattle.vcd_trace.proofs.FormLaws.{opened_text-told}
use Rattle.vcd_trace.proofs.ToldLaws.{twin_repeats_add-nothing}
use Rattle.vcd_trace.proofs.twin_laws.twin_text_only_grows.Goals as goal

pub returns : goal.returns
returns c = λ clock now told next. (added twin_form clock (last_told told) now, opened_text-told twin_form twin_repeats_add-nothing clock now told next)
