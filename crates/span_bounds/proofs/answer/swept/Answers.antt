use Rattle.span_bounds.proofs.Counts.{Count-starts, IsUnder-starts}
use Rattle.span_bounds.proofs.answer.swept.Goals as goal

pub count-requires-clause-first : goal.count-requires-clause-first
count-requires-clause-first g c = Count-starts _ _ _ _ _ (IsUnder-starts _ _ _ _ c.requires.table) c.requires.missing
