use Rattle.vcd_trace.proofs.InsideSame.{inside_changes-some}
use Rattle.vcd_trace.proofs.inside_laws.different_insides_have_lines.Goals as goal

pub returns : goal.returns
returns c = inside_changes-some
