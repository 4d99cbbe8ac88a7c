use Rattle.vcd_trace.proofs.SilenceLaws.{twin_changes-some}
use Rattle.vcd_trace.proofs.twin_laws.different_pairs_have_lines.Goals as goal

pub returns : goal.returns
returns c = twin_changes-some
