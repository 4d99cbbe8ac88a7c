-- What is left to read while an expression is open in the middle: the words of this crate's private clauses.
--   Rest          what the grammar reads on, after an operand or for one
--   rest          the same, of the openings and operations that wait, the innermost first
--   IsSound       what can wait for what
use Rattle.std.specs.Prelude.{◌≡◌, ℕ, ◌+◌, ◌-◌, ◌<◌, length, Bool, true, false, List, [], ◌∷◌, Option, Some, None, Result, Ok, count_by}
use Rattle.pio_lex.specs.declared.token.Token.{Token}
use Rattle.pio_expr.specs.declared.expr.Item.{Item}
use Rattle.pio_expr.specs.declared.expr.Item.TheVariants as item
use Rattle.answers.specs.Answers as answers
use Rattle.pio_expr.specs.declared.fault.ExprFault.{ExprFault}
use Rattle.pio_expr.specs.declared.fault.ExprRefusal.{ExprRefusal}
use Rattle.pio_expr.specs.Faults.{expr_told}
use Rattle.pio_expr.specs.declared.postfix.ExprReading.{ExprReading}
use Rattle.pio_expr.specs.declared.waiting.Waiting.{Waiting}
use Rattle.pio_expr.specs.declared.waiting.Waiting.TheVariants as waiting
use Rattle.pio_expr.specs.Grammar.{Progress, ParseResult, Parser, then, written, alone, closed, product_goes_on, sum_goes_on, readers, most_open}

-- what is read on: after a unary, after a product, after the whole parenthesis, and where an operand is wanted
pub record Rest : Type 0 where
  pub unary : Parser
  pub product : Parser
  pub level : Parser
  pub wants : Parser

-- a parenthesis, a sign or a `::`
abbrev pub opens : Waiting → Bool
opens waiting.Paren = true
opens waiting.Negate = true
opens (waiting.Reverse at) = true
opens _ = false

-- how many openings there are
abbrev pub openings : List Waiting → ℕ
openings ws = count_by opens ws

-- how many more there may be
abbrev pub left : List Waiting → ℕ
left ws = most_open - openings ws

-- a parenthesis of which nothing but the operand at hand was read
abbrev pub rest_of_level : List ℕ → List Token → ℕ → Parser → Rest
rest_of_level source tokens n level =
    let unary : Parser = (readers source tokens n).unary in
    let product : Parser = λ place. then (sum_goes_on tokens unary place) level in
    record { unary = λ place. then (product_goes_on tokens unary place) product; product = product; level = level; wants = λ place. then ((readers source tokens n).level place) level }

-- after an operation that is written as soon as its operand, a unary, is read
abbrev pub rest_of_product : List ℕ → List Token → ℕ → Item → Rest → Rest
rest_of_product source tokens n operation below =
    let unary : Parser = λ place. below.unary (written operation place) in
    record { unary = unary; product = below.product; level = below.level; wants = λ place. then ((readers source tokens n).unary place) unary }

-- after an operation that is written as soon as its operand, a product, is read
abbrev pub rest_of_sum : List ℕ → List Token → ℕ → Item → Rest → Rest
rest_of_sum source tokens n operation below =
    let unary : Parser = (readers source tokens n).unary in
    let product : Parser = λ place. below.product (written operation place) in
    let after : Parser = λ place. then (product_goes_on tokens unary place) product in
    record { unary = after; product = product; level = below.level; wants = λ place. then (unary place) after }

-- after a `::` at a token
abbrev pub rest_of_reverse : List ℕ → List Token → ℕ → ℕ → Rest → Rest
rest_of_reverse source tokens n at below =
    let unary : Parser = λ place. then (alone tokens at place) below.level in
    record { unary = unary; product = below.product; level = below.level; wants = λ place. then ((readers source tokens n).value place) unary }

-- what is read on, of all that waits
unfoldable pub rest : List ℕ → List Token → List Waiting → Rest
rest source tokens [] = rest_of_level source tokens most_open (λ place. Ok place)
rest source tokens (waiting.Paren ∷ below) =
    rest_of_level source tokens (left (waiting.Paren ∷ below)) (λ place. then (closed tokens place) (rest source tokens below).unary)
rest source tokens (waiting.Negate ∷ below) = rest_of_product source tokens (left (waiting.Negate ∷ below)) item.Negate (rest source tokens below)
rest source tokens (waiting.Reverse at ∷ below) = rest_of_reverse source tokens (left (waiting.Reverse at ∷ below)) at (rest source tokens below)
rest source tokens (waiting.Multiply ∷ below) = rest_of_product source tokens (left below) item.Multiply (rest source tokens below)
rest source tokens (waiting.Divide ∷ below) = rest_of_product source tokens (left below) item.Divide (rest source tokens below)
rest source tokens (waiting.Add ∷ below) = rest_of_sum source tokens (left below) item.Add (rest source tokens below)
rest source tokens (waiting.Subtract ∷ below) = rest_of_sum source tokens (left below) item.Subtract (rest source tokens below)

-- nothing but an operand was read of the innermost parenthesis
abbrev pub begins_level : List Waiting → Bool
begins_level [] = true
begins_level (waiting.Paren ∷ below) = true
begins_level _ = false

-- an operation of a sum, or a `::`, waits only at the beginning of its parenthesis
abbrev pub IsSound : List Waiting → Type 0
IsSound [] = Unit {0}
IsSound (waiting.Add ∷ below) = (begins_level below ≡ true) × IsSound below
IsSound (waiting.Subtract ∷ below) = (begins_level below ≡ true) × IsSound below
IsSound (waiting.Reverse at ∷ below) = (begins_level below ≡ true) × IsSound below
IsSound (_ ∷ below) = IsSound below

-- what is read on, where an operand is wanted or after one
abbrev pub goes_on : Bool → Rest → Parser
goes_on true what place = what.wants place
goes_on false what place = what.unary place

-- where a reading is
abbrev pub place_of : ExprReading → ℕ → Progress
place_of reading at = record { at = at; items = reading.items.items }

-- what the grammar gives for the whole from here on
abbrev pub answer_of : List ℕ → List Token → ExprReading → Bool → ℕ → ParseResult
answer_of source tokens reading wanted at = goes_on wanted (rest source tokens reading.waiting.items) (place_of reading at)

-- after one more token: what is read on, or that the whole ends before the token
abbrev pub GoesOn : List ℕ → List Token → ExprReading → Bool → ℕ → ExprReading → Option Bool → Type 0
GoesOn source tokens old wanted at new None = answer_of source tokens old wanted at ≡ Ok (place_of new at)
GoesOn source tokens old wanted at new (Some next) =
    (answer_of source tokens old wanted at ≡ answer_of source tokens new next (at + 1)) × IsSound new.waiting.items × (at < length tokens)

-- a returned fault is the answer, or memory ran out
abbrev pub HasExprFault : {X : Type 0} → Result X ExprRefusal → ExprFault → Type 0
HasExprFault answer fault = answers.Refuses (expr_told fault) answer

-- a returned value is the answer, or a returned fault is; want of memory is allowed
abbrev pub Answers : {X : Type 0} → Result X ExprFault → Result X ExprRefusal → Type 0
Answers result answer = answers.Answers expr_told result answer
