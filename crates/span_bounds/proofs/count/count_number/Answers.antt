use Rattle.std.proofs.Common.{sym}
use Rattle.span_bounds.proofs.Counts.{Count-skips}
use Rattle.span_bounds.proofs.count.count_number.Goals as goal

pub returns-in-Absent-clause-value : goal.returns-in-Absent-clause-value
returns-in-Absent-clause-value g c = Count-skips _ _ _ _ _ _ (sym c.in-Absent.ensures) c.requires.before
