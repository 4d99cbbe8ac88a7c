-- Without assumptions both are followed up to 31.
use Rattle.std.proofs.Common.{refl}
use Rattle.pin_matrix.specs.Assumptions.{follow_of, raised_x, raised_y}
use Rattle.pin_matrix.proofs.assume.Assumptions.empty.Goals as goal

pub invariant_of-result : goal.invariant_of-result
unfolding follow_of raised_x raised_y
invariant_of-result c = rw c.new.ensures.items (refl, refl)
