use Rattle.std.proofs.Common.{rules}
use Rattle.span_step.proofs.Periods.{least_fits}
use Rattle.span_step.proofs.rules.least_ticks.Goals as goal

-- as the search finds it; a wrong body is refused at once
pub returns-clause-value : goal.returns-clause-value
returns-clause-value c = search rules

pub returns-clause-most : goal.returns-clause-most
returns-clause-most c = rw c.from.ensures (least_fits c.args.clocks c.args.period c.requires.least)
