use Rattle.span_bounds.proofs.Prefix.{written_none}
use Rattle.span_bounds.proofs.tally.Tally.new.Goals as goal

pub returns : goal.returns
returns c = written_none _ _ _ c.in_ok-counts.ensures.items
