use Rattle.std.proofs.Common.{rules}
use Rattle.dreq_pacing.proofs.form.one_or_two.Goals as goal

pub returns-clause-numbers : goal.returns-clause-numbers
returns-clause-numbers c = search rules
