use Rattle.vcd_trace.specs.TextForm.{added, last_told}
use Rattle.vcd_trace.specs.InsideText.{inside_form}
use Rattle.vcd_trace.proofs.FormLaws.{opened_text-told}
use Rattle.vcd_trace.proofs.InsideSame.{inside_repeats_add-nothing}
use Rattle.vcd_trace.proofs.inside_laws.inside_text_only_grows.Goals as goal

pub returns : goal.returns
returns c = λ configured clock now told next. (
  added (inside_form configured) clock (last_told told) now,
  opened_text-told (inside_form configured) (inside_repeats_add-nothing configured) clock now told next,
)
