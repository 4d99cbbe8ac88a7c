-- What a token does after an operand, where nothing is left to write before it.
use Rattle.std.proofs.Common.{◌≡◌, ℕ, true, List, [], ◌∷◌, drop, Some, None, Result, Ok, Err, refl, ap, ◌∙◌}
use Rattle.pio_lex.specs.declared.token.Token.{Token}
use Rattle.pio_expr.specs.declared.expr.Item.{Item}
use Rattle.pio_expr.specs.declared.expr.Item.TheVariants as item
use Rattle.pio_expr.specs.declared.fault.ExprRefusal.{ExprRefusal}
use Rattle.pio_expr.specs.declared.mark.TokenMark.{TokenMark}
use Rattle.pio_expr.specs.declared.mark.TokenMark.TheVariants as mark
use Rattle.pio_expr.specs.declared.turn.Turn.{Turn}
use Rattle.pio_expr.specs.declared.turn.Turn.TheVariants.{Operation, Closed, End}
use Rattle.pio_expr.specs.declared.waiting.Waiting.{Waiting}
use Rattle.pio_expr.specs.declared.waiting.Waiting.TheVariants as waiting
use Rattle.pio_expr.specs.Marks.{mark_at}
use Rattle.pio_expr.specs.Grammar.{Progress, ParseResult, Parser, readers, then, next, written, closed_by, alone_by, chain_by, product_by, product_goes_on, sum_goes_on, product_operation, sum_operation}
use Rattle.pio_expr.specs.Waiting.{rest, left, begins_level, IsSound}
use Rattle.pio_expr.specs.Turns.{item_before, operation_of, innermost, first_before, turn_by}
use Rattle.pio_expr.proofs.Chains.{Onward, chain_on}
use Rattle.pio_expr.proofs.Onward.{readers_onward, product_onward}
use Rattle.pio_expr.proofs.Steps.{then_assoc}
use Rattle.pio_expr.proofs.After.{product_of_level, product_ends, sum_ends}

-- what is read on after a turn
abbrev pub Turns : List ℕ → List Token → List Waiting → Progress → Result Turn ExprRefusal → Type 0
Turns source tokens ws p (Ok (Operation w)) = ((rest source tokens ws).unary p ≡ (rest source tokens (w ∷ ws)).wants (next p)) × IsSound (w ∷ ws)
Turns source tokens ws p (Ok Closed) = ((rest source tokens ws).unary p ≡ (rest source tokens (drop 1 ws)).unary (next p)) × IsSound (drop 1 ws)
Turns source tokens ws p (Ok End) = (rest source tokens ws).unary p ≡ Ok p
Turns source tokens ws p (Err fault) = (rest source tokens ws).unary p ≡ Err fault

-- an operation of a product goes on after its operand
product_more : (tokens : List Token) (unary : Parser) (k : Parser) (i : Item) (p : Progress) → Onward unary → product_operation (mark_at tokens p.at) ≡ Some i → then (product_goes_on tokens unary p) k ≡ then (unary (next p)) (λ q. then (product_goes_on tokens unary (written i q)) k)
product_more tokens unary k i p on e =
    ap (λ read. then read k) (chain_on tokens product_operation unary p refl on ∙ ap (λ o. chain_by unary (λ operation q. product_goes_on tokens unary (written operation q)) o p) e)
    ∙ then_assoc (unary (next p)) (λ q. product_goes_on tokens unary (written i q)) k

-- an operation of a sum goes on after its operand
sum_more : (tokens : List Token) (unary : Parser) (k : Parser) (i : Item) (p : Progress) → Onward unary → sum_operation (mark_at tokens p.at) ≡ Some i → then (sum_goes_on tokens unary p) k ≡ then (unary (next p)) (λ q. then (product_goes_on tokens unary q) (λ r. then (sum_goes_on tokens unary (written i r)) k))
sum_more tokens unary k i p on e =
    ap (λ read. then read k) (chain_on tokens sum_operation (product_by tokens unary) p refl (product_onward tokens unary on) ∙ ap (λ o. chain_by (product_by tokens unary) (λ operation q. sum_goes_on tokens unary (written operation q)) o p) e)
    ∙ by_read (unary (next p)) where
      by_read : (read : ParseResult) → then (then (then read (product_goes_on tokens unary)) (λ q. sum_goes_on tokens unary (written i q))) k ≡ then read (λ q. then (product_goes_on tokens unary q) (λ r. then (sum_goes_on tokens unary (written i r)) k))
      by_read (Ok q) = then_assoc (product_goes_on tokens unary q) (λ r. sum_goes_on tokens unary (written i r)) k
      by_read (Err fault) = refl

star_is : (source : List ℕ) (tokens : List Token) (ws : List Waiting) (p : Progress) → mark_at tokens p.at ≡ mark.Star → begins_level ws ≡ true → (rest source tokens ws).unary p ≡ (rest source tokens (waiting.Multiply ∷ ws)).wants (next p)
unfolding rest
star_is source tokens [] p is begins = product_more tokens (readers source tokens (left [])).unary (rest source tokens []).product item.Multiply p (readers_onward source tokens (left [])).unary (ap product_operation is)
star_is source tokens (waiting.Paren ∷ below) p is begins = product_more tokens (readers source tokens (left (waiting.Paren ∷ below))).unary (rest source tokens (waiting.Paren ∷ below)).product item.Multiply p (readers_onward source tokens (left (waiting.Paren ∷ below))).unary (ap product_operation is)
star_is source tokens (w ∷ below) p is begins = cc

slash_is : (source : List ℕ) (tokens : List Token) (ws : List Waiting) (p : Progress) → mark_at tokens p.at ≡ mark.Slash → begins_level ws ≡ true → (rest source tokens ws).unary p ≡ (rest source tokens (waiting.Divide ∷ ws)).wants (next p)
unfolding rest
slash_is source tokens [] p is begins = product_more tokens (readers source tokens (left [])).unary (rest source tokens []).product item.Divide p (readers_onward source tokens (left [])).unary (ap product_operation is)
slash_is source tokens (waiting.Paren ∷ below) p is begins = product_more tokens (readers source tokens (left (waiting.Paren ∷ below))).unary (rest source tokens (waiting.Paren ∷ below)).product item.Divide p (readers_onward source tokens (left (waiting.Paren ∷ below))).unary (ap product_operation is)
slash_is source tokens (w ∷ below) p is begins = cc

plus_shape : (source : List ℕ) (tokens : List Token) (ws : List Waiting) (p : Progress) → begins_level ws ≡ true → then ((readers source tokens (left ws)).unary (next p)) (λ q. then (product_goes_on tokens (readers source tokens (left ws)).unary q) (λ r. then (sum_goes_on tokens (readers source tokens (left ws)).unary (written item.Add r)) (rest source tokens ws).level)) ≡ (rest source tokens (waiting.Add ∷ ws)).wants (next p)
unfolding rest
plus_shape source tokens [] p e = refl
plus_shape source tokens (waiting.Paren ∷ below) p e = refl
plus_shape source tokens (w ∷ below) p e = cc

plus_is : (source : List ℕ) (tokens : List Token) (ws : List Waiting) (p : Progress) → mark_at tokens p.at ≡ mark.Plus → begins_level ws ≡ true → (rest source tokens ws).unary p ≡ (rest source tokens (waiting.Add ∷ ws)).wants (next p)
plus_is source tokens ws p is begins =
    product_ends source tokens ws p (ap product_operation is) begins ∙ product_of_level source tokens ws p begins
    ∙ sum_more tokens (readers source tokens (left ws)).unary (rest source tokens ws).level item.Add p (readers_onward source tokens (left ws)).unary (ap sum_operation is) ∙ plus_shape source tokens ws p begins

minus_shape : (source : List ℕ) (tokens : List Token) (ws : List Waiting) (p : Progress) → begins_level ws ≡ true → then ((readers source tokens (left ws)).unary (next p)) (λ q. then (product_goes_on tokens (readers source tokens (left ws)).unary q) (λ r. then (sum_goes_on tokens (readers source tokens (left ws)).unary (written item.Subtract r)) (rest source tokens ws).level)) ≡ (rest source tokens (waiting.Subtract ∷ ws)).wants (next p)
unfolding rest
minus_shape source tokens [] p e = refl
minus_shape source tokens (waiting.Paren ∷ below) p e = refl
minus_shape source tokens (w ∷ below) p e = cc

minus_is : (source : List ℕ) (tokens : List Token) (ws : List Waiting) (p : Progress) → mark_at tokens p.at ≡ mark.Minus → begins_level ws ≡ true → (rest source tokens ws).unary p ≡ (rest source tokens (waiting.Subtract ∷ ws)).wants (next p)
minus_is source tokens ws p is begins =
    product_ends source tokens ws p (ap product_operation is) begins ∙ product_of_level source tokens ws p begins
    ∙ sum_more tokens (readers source tokens (left ws)).unary (rest source tokens ws).level item.Subtract p (readers_onward source tokens (left ws)).unary (ap sum_operation is) ∙ minus_shape source tokens ws p begins

-- after a sum, an operation of a product
inner_star : (source : List ℕ) (tokens : List Token) (below : List Waiting) (p : Progress) → mark_at tokens p.at ≡ mark.Star → ((rest source tokens (waiting.Add ∷ below)).unary p ≡ (rest source tokens (waiting.Multiply ∷ waiting.Add ∷ below)).wants (next p)) × ((rest source tokens (waiting.Subtract ∷ below)).unary p ≡ (rest source tokens (waiting.Multiply ∷ waiting.Subtract ∷ below)).wants (next p))
unfolding rest
inner_star source tokens below p is = (
  product_more tokens (readers source tokens (left below)).unary (rest source tokens (waiting.Add ∷ below)).product item.Multiply p (readers_onward source tokens (left below)).unary (ap product_operation is),
  product_more tokens (readers source tokens (left below)).unary (rest source tokens (waiting.Subtract ∷ below)).product item.Multiply p (readers_onward source tokens (left below)).unary (ap product_operation is),
)

inner_slash : (source : List ℕ) (tokens : List Token) (below : List Waiting) (p : Progress) → mark_at tokens p.at ≡ mark.Slash → ((rest source tokens (waiting.Add ∷ below)).unary p ≡ (rest source tokens (waiting.Divide ∷ waiting.Add ∷ below)).wants (next p)) × ((rest source tokens (waiting.Subtract ∷ below)).unary p ≡ (rest source tokens (waiting.Divide ∷ waiting.Subtract ∷ below)).wants (next p))
unfolding rest
inner_slash source tokens below p is = (
  product_more tokens (readers source tokens (left below)).unary (rest source tokens (waiting.Add ∷ below)).product item.Divide p (readers_onward source tokens (left below)).unary (ap product_operation is),
  product_more tokens (readers source tokens (left below)).unary (rest source tokens (waiting.Subtract ∷ below)).product item.Divide p (readers_onward source tokens (left below)).unary (ap product_operation is),
)

-- after a whole expression
level_ends : (source : List ℕ) (tokens : List Token) (ws : List Waiting) (m : TokenMark) (p : Progress) → mark_at tokens p.at ≡ m → operation_of m ≡ None → begins_level ws ≡ true → (rest source tokens ws).unary p ≡ (rest source tokens ws).level p
level_ends source tokens ws m p is none begins = product_ends source tokens ws p (no_product m none is) begins ∙ sum_ends source tokens ws p (no_sum m none is) begins where
  no_product : (m : TokenMark) → operation_of m ≡ None → mark_at tokens p.at ≡ m → product_operation (mark_at tokens p.at) ≡ None
  no_product mark.Star e f = cc
  no_product mark.Slash e f = cc
  no_product _ e f = ap product_operation f

  no_sum : (m : TokenMark) → operation_of m ≡ None → mark_at tokens p.at ≡ m → sum_operation (mark_at tokens p.at) ≡ None
  no_sum mark.Plus e f = cc
  no_sum mark.Minus e f = cc
  no_sum _ e f = ap sum_operation f

empty_ends : (source : List ℕ) (tokens : List Token) (p : Progress) → (rest source tokens []).level p ≡ Ok p
unfolding rest
empty_ends source tokens p = refl

paren_closes : (source : List ℕ) (tokens : List Token) (below : List Waiting) (m : TokenMark) (p : Progress) → mark_at tokens p.at ≡ m → (rest source tokens (waiting.Paren ∷ below)).level p ≡ then (closed_by m p) (rest source tokens below).unary
unfolding rest
paren_closes source tokens below m p is = ap (λ k. then (closed_by k p) (rest source tokens below).unary) is

-- where nothing waits
empty_is : (source : List ℕ) (tokens : List Token) (m : TokenMark) (p : Progress) → mark_at tokens p.at ≡ m → Turns source tokens [] p (turn_by (operation_of m) None m p.at)
empty_is source tokens mark.Star p is = (star_is source tokens [] p is refl, tt)
empty_is source tokens mark.Slash p is = (slash_is source tokens [] p is refl, tt)
empty_is source tokens mark.Plus p is = (plus_is source tokens [] p is refl, (refl, tt))
empty_is source tokens mark.Minus p is = (minus_is source tokens [] p is refl, (refl, tt))
empty_is source tokens m p is = level_ends source tokens [] m p is refl refl ∙ empty_ends source tokens p

-- where a parenthesis waits
paren_is : (source : List ℕ) (tokens : List Token) (below : List Waiting) (m : TokenMark) (p : Progress) → mark_at tokens p.at ≡ m → IsSound below → Turns source tokens (waiting.Paren ∷ below) p (turn_by (operation_of m) (Some waiting.Paren) m p.at)
paren_is source tokens below mark.Star p is sound = (star_is source tokens (waiting.Paren ∷ below) p is refl, sound)
paren_is source tokens below mark.Slash p is sound = (slash_is source tokens (waiting.Paren ∷ below) p is refl, sound)
paren_is source tokens below mark.Plus p is sound = (plus_is source tokens (waiting.Paren ∷ below) p is refl, (refl, sound))
paren_is source tokens below mark.Minus p is sound = (minus_is source tokens (waiting.Paren ∷ below) p is refl, (refl, sound))
paren_is source tokens below mark.Close p is sound = (level_ends source tokens (waiting.Paren ∷ below) mark.Close p is refl refl ∙ paren_closes source tokens below mark.Close p is, sound)
paren_is source tokens below m p is sound = level_ends source tokens (waiting.Paren ∷ below) m p is refl refl ∙ paren_closes source tokens below m p is

-- where a `::` waits
reverse_is : (source : List ℕ) (tokens : List Token) (below : List Waiting) (at : ℕ) (m : TokenMark) (p : Progress) → mark_at tokens p.at ≡ m → item_before (waiting.Reverse at) m ≡ None → Turns source tokens (waiting.Reverse at ∷ below) p (turn_by (operation_of m) (Some (waiting.Reverse at)) m p.at)
unfolding rest
reverse_is source tokens below at mark.Star p is done = ap (λ k. then (alone_by k at (written item.Reverse p)) (rest source tokens below).level) is
reverse_is source tokens below at mark.Slash p is done = ap (λ k. then (alone_by k at (written item.Reverse p)) (rest source tokens below).level) is
reverse_is source tokens below at mark.Plus p is done = ap (λ k. then (alone_by k at (written item.Reverse p)) (rest source tokens below).level) is
reverse_is source tokens below at mark.Minus p is done = ap (λ k. then (alone_by k at (written item.Reverse p)) (rest source tokens below).level) is
reverse_is source tokens below at m p is done = cc

-- where a sum waits
add_is : (source : List ℕ) (tokens : List Token) (below : List Waiting) (m : TokenMark) (p : Progress) → mark_at tokens p.at ≡ m → item_before waiting.Add m ≡ None → IsSound (waiting.Add ∷ below) → Turns source tokens (waiting.Add ∷ below) p (turn_by (operation_of m) (Some waiting.Add) m p.at)
add_is source tokens below mark.Star p is done sound = ((inner_star source tokens below p is).0, sound)
add_is source tokens below mark.Slash p is done sound = ((inner_slash source tokens below p is).0, sound)
add_is source tokens below m p is done sound = cc

subtract_is : (source : List ℕ) (tokens : List Token) (below : List Waiting) (m : TokenMark) (p : Progress) → mark_at tokens p.at ≡ m → item_before waiting.Subtract m ≡ None → IsSound (waiting.Subtract ∷ below) → Turns source tokens (waiting.Subtract ∷ below) p (turn_by (operation_of m) (Some waiting.Subtract) m p.at)
subtract_is source tokens below mark.Star p is done sound = ((inner_star source tokens below p is).1, sound)
subtract_is source tokens below mark.Slash p is done sound = ((inner_slash source tokens below p is).1, sound)
subtract_is source tokens below m p is done sound = cc

-- whatever waits
pub turn_is : (source : List ℕ) (tokens : List Token) (ws : List Waiting) (m : TokenMark) (p : Progress) → mark_at tokens p.at ≡ m → first_before (innermost ws) m ≡ None → IsSound ws → Turns source tokens ws p (turn_by (operation_of m) (innermost ws) m p.at)
turn_is source tokens [] m p is done sound = empty_is source tokens m p is
turn_is source tokens (waiting.Paren ∷ below) m p is done sound = paren_is source tokens below m p is sound
turn_is source tokens (waiting.Reverse at ∷ below) m p is done sound = reverse_is source tokens below at m p is done
turn_is source tokens (waiting.Add ∷ below) m p is done sound = add_is source tokens below m p is done sound
turn_is source tokens (waiting.Subtract ∷ below) m p is done sound = subtract_is source tokens below m p is done sound
turn_is source tokens (waiting.Negate ∷ below) m p is done sound = cc
turn_is source tokens (waiting.Multiply ∷ below) m p is done sound = cc
turn_is source tokens (waiting.Divide ∷ below) m p is done sound = cc
