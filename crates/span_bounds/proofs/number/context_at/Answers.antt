use Rattle.std.proofs.Common.{arith}
use Rattle.span_bounds.proofs.Placing.{address_fits}
use Rattle.span_bounds.proofs.number.context_at.Goals as goal

pub invariant_of-result : goal.invariant_of-result
invariant_of-result c = rw (c.from-height.ensures, c.from-width.ensures) (address_fits c.args.follow c.args.number c.requires)

pub overflow_cast-result : goal.overflow_cast-result
overflow_cast-result c = let l = address_fits c.args.follow c.args.number c.requires in rw (c.from-height.ensures, c.from-width.ensures) (omega (arith, l))
