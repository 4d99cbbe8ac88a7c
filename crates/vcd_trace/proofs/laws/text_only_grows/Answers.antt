use Rattle.vcd_trace.specs.TextForm.{added, last_told}
use Rattle.vcd_trace.specs.VcdText.{vcd_form}
use Rattle.vcd_trace.proofs.FormLaws.{opened_text-told}
use Rattle.vcd_trace.proofs.ToldLaws.{repeats_add-nothing}
use Rattle.vcd_trace.proofs.laws.text_only_grows.Goals as goal

pub returns : goal.returns
returns c = λ clock now told next. (added vcd_form clock (last_told told) now, opened_text-told vcd_form repeats_add-nothing clock now told next)
