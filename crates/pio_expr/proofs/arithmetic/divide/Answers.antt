use Rattle.std.proofs.Common.{ap, arith, of_z, w32, ◌∙◌, to_z-of_z}
use Rattle.std.specs.Prelude.{int_div}
use Rattle.std.specs.Option.{SomeIff}
use Rattle.std.specs.Int.{CanDivide}
use Rattle.pio_expr.proofs.Checked.{divided_by}
use Rattle.pio_expr.proofs.arithmetic.divide.Goals as goal

pub returns : goal.returns
returns c =
    let some = c.if-right-eq0.false in
    let given : SomeIff c.checked_div.result (CanDivide w32 c.args.left c.args.right) (int_div c.args.left c.args.right) = rw (to_z-of_z c.ranges.left, to_z-of_z c.ranges.right) at c.checked_div.ensures in
    c.ok_or.ensures.value ∙ divided_by c.checked_div.result c.args.left c.args.right (omega (arith, some)) (λ e. some (ap (λ z. of_z w32 z) e)) given
