use Rattle.std.proofs.Common.{refl}
use Rattle.span_bounds.proofs.Grids.{no_rows}
use Rattle.span_bounds.proofs.table.Table.new.Goals as goal

pub returns : goal.returns
returns c = rw (c.in_ok-grid.ensures, no_rows c.args.follow 0 c.contexts.result) refl
