use Rattle.std.proofs.Common.{◌≡◌, ◌+◌, ◌-◌, ℕ, arith}
use Rattle.pio_expr.proofs.Names.{name_is_text}
use Rattle.pio_expr.proofs.laws.a_name_is_a_text.Goals as goal

pub returns : goal.returns
returns c source token is name =
    let back : (first size : ℕ) → (first + size) - first ≡ size = λ first size. omega arith in
    rw (back token.first token.length) (name_is_text source token is name)
