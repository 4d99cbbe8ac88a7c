use Rattle.std.proofs.Common.{ap, ◌∙◌}
use Rattle.block_core.specs.Sample.{values_of}
use Rattle.vcd_trace.specs.VcdText.{widths, change_lines, changes_over}
use Rattle.vcd_trace.proofs.TextLaws.{change_lines-same}
use Rattle.vcd_trace.proofs.laws.same_values_have_no_lines.Goals as goal

pub returns : goal.returns
unfolding changes_over
returns c = λ before now same. ap (λ x. change_lines 33 widths x (values_of now)) same ∙ change_lines-same 33 widths (values_of now)
