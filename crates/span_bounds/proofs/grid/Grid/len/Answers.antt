use Rattle.std.proofs.Common.{sym}
use Rattle.span_bounds.proofs.Prefix.{length-written}
use Rattle.span_bounds.proofs.grid.Grid.len.Goals as goal

pub returns : goal.returns
returns c = rw (← c.self.view_is) (sym (length-written _ _ _ c.self.invariant.0))
