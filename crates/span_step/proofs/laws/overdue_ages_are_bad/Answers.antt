use Rattle.span_step.proofs.Overdue.{overdue_bad, overdue_alike}
use Rattle.span_step.proofs.laws.overdue_ages_are_bad.Goals as goal

pub returns : goal.returns
returns c = record { bad = overdue_bad; alike = overdue_alike }
