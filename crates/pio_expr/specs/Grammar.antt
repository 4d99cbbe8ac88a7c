-- How an expression is read from its tokens (Pico SDK manual, section 3.3.2; what it leaves open is a choice of this profile):
--   sum     := product {(+|-) product}
--   product := unary {(*|/) unary}
--   unary   := - unary | value
--   value   := number | NAME | ( level )
--   level   := :: value | sum
-- Each `{..}` takes what it can. At most 64 of `(`, `-` before a unary, and `::` are open at once. A `::` beside a sign or an
-- operation in its parenthesis is ambiguous. What is met first is the answer.
--   Progress, Parser   where reading is, and one rule of the grammar
--   chain              what goes on after an operand, by operators of one rank
--   Readers            the rules, by how many more openings are allowed
--   expression_at      the expression that begins at a token
use Rattle.std.specs.Prelude.{ℕ, zero, suc, ◌+◌, pos, List, [], ◌∷◌, ◌++◌, length, Option, Some, None, Result, Ok, Err, slice_get, slice_range}
use Rattle.answers.specs.Answers.{◌>>=◌}
use Rattle.pio_lex.specs.declared.token.TokenKind.{TokenKind}
use Rattle.pio_lex.specs.declared.token.TokenKind.TheVariants as kind
use Rattle.pio_lex.specs.declared.token.Token.{Token}
use Rattle.pio_expr.specs.declared.expr.Item.{Item}
use Rattle.pio_expr.specs.declared.expr.Item.TheVariants as item
use Rattle.pio_expr.specs.declared.fault.ExprKind.{ExprKind}
use Rattle.pio_expr.specs.declared.fault.ExprKind.TheVariants.{Syntax, TooDeep, Ambiguous}
use Rattle.pio_expr.specs.declared.fault.ExprRefusal.{ExprRefusal}
use Rattle.pio_expr.specs.declared.mark.TokenMark.{TokenMark}
use Rattle.pio_expr.specs.declared.mark.TokenMark.TheVariants as mark
use Rattle.pio_expr.specs.Marks.{mark_at}

-- a place among the tokens, with the items that were read so far
pub record Progress : Type 0 where
  pub at : ℕ
  pub items : List Item

-- what reading gives: the place after what was read, or the first fault
abbrev pub ParseResult : Type 0
ParseResult = Result Progress ExprRefusal

-- one rule of the grammar, from a place on
abbrev pub Parser : Type 0
Parser = Progress → ParseResult

-- one rule after another
abbrev pub then : ParseResult → Parser → ParseResult
then read reader = read >>= reader

-- the next token
abbrev pub next : Progress → Progress
next place = record { at = place.at + 1; items = place.items }

-- one more item
abbrev pub written : Item → Progress → Progress
written item place = record { at = place.at; items = place.items ++ item ∷ [] }

-- this is wrong at a token
abbrev pub misplaced : ℕ → ExprKind → ExprRefusal
misplaced at kind = record { place = at; kind = kind }

-- a fault of the token at a place
abbrev pub refused : ExprKind → Progress → ParseResult
refused kind place = Err (misplaced place.at kind)

-- the item of a token that is a value by itself: a number, or a name as it is in the source
abbrev pub item_by : List ℕ → TokenKind → ℕ → ℕ → Item
item_by source (kind.Number value) first size = item.Number (pos value)
item_by source _ first size = item.Name (slice_range source first (first + size))

-- the item of a token that is there
abbrev pub items_by : List ℕ → Option Token → List Item
items_by source (Some token) = item_by source token.kind token.first token.length ∷ []
items_by source None = []

-- the value at a place
unfoldable pub value_read : List ℕ → List Token → Progress → Progress
value_read source tokens place = record { at = place.at + 1; items = place.items ++ items_by source (slice_get tokens place.at) }

-- the operations of a product
abbrev pub product_operation : TokenMark → Option Item
product_operation mark.Star = Some item.Multiply
product_operation mark.Slash = Some item.Divide
product_operation _ = None

-- the operations of a sum
abbrev pub sum_operation : TokenMark → Option Item
sum_operation mark.Plus = Some item.Add
sum_operation mark.Minus = Some item.Subtract
sum_operation _ = None

-- the end, where no operation is, or an operation, its right operand and what goes on after
abbrev pub chain_by : Parser → (Item → Parser) → Option Item → Parser
chain_by operand rest None place = Ok place
chain_by operand rest (Some operation) place = then (operand (next place)) (rest operation)

-- what comes after an operand: operations, each with its right operand, and written after it; at most this many
unfoldable pub chain : List Token → (TokenMark → Option Item) → Parser → ℕ → Parser
chain tokens operation_of operand zero place = Ok place
chain tokens operation_of operand (suc n) place =
    chain_by operand (λ operation after. chain tokens operation_of operand n (written operation after)) (operation_of (mark_at tokens place.at)) place

-- `{(*|/) unary}`, after a first operand
abbrev pub product_goes_on : List Token → Parser → Parser
product_goes_on tokens unary = chain tokens product_operation unary (length tokens)

-- `unary {(*|/) unary}`
abbrev pub product_by : List Token → Parser → Parser
product_by tokens unary place = then (unary place) (product_goes_on tokens unary)

-- `{(+|-) product}`, after a first operand
abbrev pub sum_goes_on : List Token → Parser → Parser
sum_goes_on tokens unary = chain tokens sum_operation (product_by tokens unary) (length tokens)

-- `product {(+|-) product}`
abbrev pub sum_by : List Token → Parser → Parser
sum_by tokens unary place = then (product_by tokens unary place) (sum_goes_on tokens unary)

-- the `)` of a parenthesis
abbrev pub closed_by : TokenMark → Parser
closed_by mark.Close place = Ok (next place)
closed_by _ place = refused Syntax place

-- the `)` that is to be at a place
abbrev pub closed : List Token → Parser
closed tokens place = closed_by (mark_at tokens place.at) place

-- a `::`, which is at a token, is alone in its parenthesis: no operation follows
abbrev pub alone_by : TokenMark → ℕ → Parser
alone_by mark.Star at place = Err (misplaced at Ambiguous)
alone_by mark.Slash at place = Err (misplaced at Ambiguous)
alone_by mark.Plus at place = Err (misplaced at Ambiguous)
alone_by mark.Minus at place = Err (misplaced at Ambiguous)
alone_by _ at place = Ok place

-- the end of a `::` that is at a token: its item, and no operation after it
abbrev pub alone : List Token → ℕ → Parser
alone tokens at place = alone_by (mark_at tokens place.at) at (written item.Reverse place)

-- the rules of the grammar, as far as they may open
pub record Readers : Type 0 where
  pub value : Parser
  pub unary : Parser
  pub level : Parser

-- `number | NAME | ( level )`; the rules after one more opening are `None` where there may be none
abbrev pub value_by : List ℕ → List Token → TokenMark → Option Readers → Parser
value_by source tokens mark.Value deeper place = Ok (value_read source tokens place)
value_by source tokens mark.Open None place = refused TooDeep place
value_by source tokens mark.Open (Some rules) place = then (rules.level (next place)) (closed tokens)
value_by source tokens _ deeper place = refused Syntax place

-- `- unary | value`; a `::` here is beside a sign or an operation
abbrev pub unary_by : List ℕ → List Token → TokenMark → Option Readers → Parser
unary_by source tokens mark.Minus None place = refused TooDeep place
unary_by source tokens mark.Minus (Some rules) place = then (rules.unary (next place)) (λ after. Ok (written item.Negate after))
unary_by source tokens mark.Reverse None place = refused TooDeep place
unary_by source tokens mark.Reverse (Some rules) place = refused Ambiguous place
unary_by source tokens mark deeper place = value_by source tokens mark deeper place

-- `:: value | sum`
abbrev pub level_by : List ℕ → List Token → TokenMark → Option Readers → Parser → Parser
level_by source tokens mark.Reverse None unary place = refused TooDeep place
level_by source tokens mark.Reverse (Some rules) unary place = then (rules.value (next place)) (alone tokens place.at)
level_by source tokens mark deeper unary place = sum_by tokens unary place

-- the rules of the grammar, by those after one more opening
abbrev pub readers_by : List ℕ → List Token → Option Readers → Readers
readers_by source tokens deeper =
    let unary : Parser = λ place. unary_by source tokens (mark_at tokens place.at) deeper place in
    record { value = λ place. value_by source tokens (mark_at tokens place.at) deeper place; unary = unary; level = λ place. level_by source tokens (mark_at tokens place.at) deeper unary place }

-- the rules where this many openings are allowed
unfoldable pub readers : List ℕ → List Token → ℕ → Readers
readers source tokens zero = readers_by source tokens None
readers source tokens (suc n) = readers_by source tokens (Some (readers source tokens n))

-- the most openings at once (choice of this profile)
abbrev pub most_open : ℕ
most_open = 64

-- the items of an expression, and the place after it
abbrev pub read_items : ParseResult → Result (List Item × ℕ) ExprRefusal
read_items (Ok place) = Ok (place.items, place.at)
read_items (Err fault) = Err fault

-- the expression that begins at a token, with the place of the token after it, or its first fault
unfoldable pub expression_at : List ℕ → List Token → ℕ → Result (List Item × ℕ) ExprRefusal
expression_at source tokens from = read_items ((readers source tokens most_open).level (record { at = from; items = [] }))
