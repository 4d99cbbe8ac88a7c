-- What was returned is the grammar's answer.
use Rattle.std.proofs.Common.{◌≡◌, ℕ, List, [], Result, Ok, Err, ap, sym, ◌∙◌, refl}
use Rattle.pio_lex.specs.declared.token.Token.{Token}
use Rattle.pio_expr.specs.declared.expr.Item.{Item}
use Rattle.pio_expr.specs.declared.fault.ExprFault.{ExprFault}
use Rattle.pio_expr.specs.declared.fault.ExprFault.TheVariants.{Memory, At}
use Rattle.pio_expr.specs.declared.fault.ExprRefusal.{ExprRefusal}
use Rattle.pio_expr.specs.Grammar.{ParseResult, then, read_items, readers, most_open, expression_at}
use Rattle.pio_expr.specs.Waiting.{Answers, HasExprFault, rest}

pub answered_fault : (whole : Result (List Item × ℕ) ExprRefusal) (read : ParseResult) (fault : ExprFault) → whole ≡ read_items read → HasExprFault read fault → Answers (Err fault) whole
answered_fault whole read Memory e h = tt
answered_fault whole read (At place kind) e h = e ∙ ap read_items h

then_ok : (read : ParseResult) → then read (λ place. Ok place) ≡ read
then_ok (Ok place) = refl
then_ok (Err fault) = refl

-- at the beginning all is left to read
pub all_left : (source : List ℕ) (tokens : List Token) (from : ℕ) → expression_at source tokens from ≡ read_items ((rest source tokens []).wants (record { at = from; items = [] }))
unfolding expression_at rest
all_left source tokens from = ap read_items (sym (then_ok ((readers source tokens most_open).level (record { at = from; items = [] }))))
