use Rattle.std.proofs.Common.{◌∙◌, to_z-of_z}
use Rattle.pio_expr.proofs.Checked.{checked_by}
use Rattle.pio_expr.proofs.arithmetic.multiply.Goals as goal

pub returns : goal.returns
returns c =
    rw (to_z-of_z c.ranges.left, to_z-of_z c.ranges.right) at (c.ok_or.ensures.value ∙ checked_by c.checked_mul.result _ c.checked_mul.ensures)
