use Rattle.pio_expr.proofs.Naming.{own_value_is}
use Rattle.pio_expr.proofs.laws.own_value.Goals as goal

pub returns : goal.returns
returns c = own_value_is
