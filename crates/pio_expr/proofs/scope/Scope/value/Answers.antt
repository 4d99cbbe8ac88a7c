use Rattle.std.proofs.Common.{option_copied}
use Rattle.pio_expr.proofs.Finding.{own_is_there}
use Rattle.pio_expr.proofs.scope.Scope.value.Goals as goal

pub work_out-requires-clause-own : goal.work_out-requires-clause-own
work_out-requires-clause-own c =
    rw (c.own_place-place.ensures, c.items.ensures, c.self.view_is) (own_is_there c.args.self.now (option_copied c.args.own) c.args.expr.now c.requires.own)
