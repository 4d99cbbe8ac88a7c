use Rattle.std.proofs.Common.{sym}
use Rattle.span_bounds.proofs.Reaching.{Sweep-skip}
use Rattle.span_bounds.proofs.reach.visit.Goals as goal

pub returns-in-Absent-clause-sweep : goal.returns-in-Absent-clause-sweep
returns-in-Absent-clause-sweep g c = Sweep-skip _ _ _ _ _ (sym c.in-Absent.ensures) c.requires.sweep
