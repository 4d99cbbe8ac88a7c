use Rattle.std.proofs.Common.{rules}
use Rattle.pio_expr.proofs.expr.Item.copy.Goals as goal

pub returns : goal.returns
returns c = search rules
