-- The assumptions one by one.
use Rattle.std.proofs.Common.{None, sym, ◌∙◌, arith}
use Rattle.pin_matrix.proofs.Raising.{x-drop, x-past}
use Rattle.pin_matrix.proofs.assume.most_x.Goals as goal

pub loop-item-preserved : goal.loop-item-preserved
loop-item-preserved c =
    rw (c.greater-most.ensures, c.end_of.ensures)
    (sym (x-drop c.loop-item.most c.args.items.now c.loop-item.item-index (record { address = 0; x = None; y = None }) (omega arith)) ∙ c.loop-item.invariant)

pub returns : goal.returns
returns c = sym (x-past c.loop-item.most c.args.items.now c.loop-item.item-index (omega arith)) ∙ c.loop-item.invariant
