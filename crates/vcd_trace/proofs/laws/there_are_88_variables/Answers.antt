use Rattle.std.proofs.Common.{refl}
use Rattle.vcd_trace.specs.VcdText.{variables}
use Rattle.vcd_trace.proofs.laws.there_are_88_variables.Goals as goal

pub returns : goal.returns
unfolding variables
returns c = refl
