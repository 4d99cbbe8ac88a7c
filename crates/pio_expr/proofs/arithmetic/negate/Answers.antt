use Rattle.std.proofs.Common.{◌∙◌, to_z-of_z}
use Rattle.pio_expr.proofs.Checked.{checked_by}
use Rattle.pio_expr.proofs.arithmetic.negate.Goals as goal

pub returns : goal.returns
returns c = rw (to_z-of_z c.ranges.number) at (c.ok_or.ensures.value ∙ checked_by c.checked_neg.result _ c.checked_neg.ensures)
