use Rattle.std.proofs.Common.{◌∙◌}
use Rattle.vcd_trace.proofs.ToldLaws.{derived_same-is}
use Rattle.vcd_trace.proofs.vcd.is_same.Goals as goal

pub returns : goal.returns
returns c = c.eq.ensures ∙ derived_same-is c.args.before.now c.args.now.now
