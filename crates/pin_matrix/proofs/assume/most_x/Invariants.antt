-- What is left raises the greatest so far to that of all.
use Rattle.std.proofs.Common.{◌≡◌, drop}
use Rattle.pin_matrix.specs.Assumptions as spec
use Rattle.pin_matrix.proofs.assume.most_x.Given as goal

abbrev pub invariant-loop-item : goal.invariant-loop-item
invariant-loop-item l = spec.raised_x l.most (drop l.item-index l.items) ≡ spec.raised_x 0 l.items
