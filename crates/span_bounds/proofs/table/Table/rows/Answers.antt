use Rattle.span_bounds.proofs.Grids.{IsTable-rows_from}
use Rattle.span_bounds.proofs.table.Table.rows.Goals as goal

pub returns-clause-table : goal.returns-clause-table
returns-clause-table c = rw (← c.self.view_is) (IsTable-rows_from _ _ c.self.invariant)
