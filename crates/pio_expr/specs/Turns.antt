-- What one token does to what waits, beside the grammar: the words of this crate's private clauses.
use Rattle.std.specs.Prelude.{ℕ, nat_lt, List, [], ◌∷◌, Bool, true, false, Option, Some, None, Result, Ok, Err, if◌then◌else◌}
use Rattle.pio_expr.specs.declared.expr.Item.{Item}
use Rattle.pio_expr.specs.declared.expr.Item.TheVariants as item
use Rattle.pio_expr.specs.declared.fault.ExprKind.TheVariants.{Syntax, TooDeep, Ambiguous}
use Rattle.pio_expr.specs.declared.fault.ExprRefusal.{ExprRefusal}
use Rattle.pio_expr.specs.declared.mark.TokenMark.{TokenMark}
use Rattle.pio_expr.specs.declared.mark.TokenMark.TheVariants as mark
use Rattle.pio_expr.specs.declared.turn.Turn.{Turn}
use Rattle.pio_expr.specs.declared.turn.Turn.TheVariants.{Operation, Closed, End}
use Rattle.pio_expr.specs.declared.waiting.Waiting.{Waiting}
use Rattle.pio_expr.specs.declared.waiting.Waiting.TheVariants as waiting
use Rattle.pio_expr.specs.Grammar.{misplaced, most_open}
use Rattle.pio_expr.specs.Waiting.{openings}

-- the operation that a token is
abbrev pub operation_of : TokenMark → Option Waiting
operation_of mark.Star = Some waiting.Multiply
operation_of mark.Slash = Some waiting.Divide
operation_of mark.Plus = Some waiting.Add
operation_of mark.Minus = Some waiting.Subtract
operation_of _ = None

-- an item, where the token isn't that of a product
abbrev pub unless_product : TokenMark → Item → Option Item
unless_product mark.Star written = None
unless_product mark.Slash written = None
unless_product _ written = Some written

-- an item, where the token is no operation
abbrev pub unless_operation : TokenMark → Item → Option Item
unless_operation mark.Star written = None
unless_operation mark.Slash written = None
unless_operation mark.Plus written = None
unless_operation mark.Minus written = None
unless_operation _ written = Some written

-- what is written of something that waits, before a token after its operand
abbrev pub item_before : Waiting → TokenMark → Option Item
item_before waiting.Paren m = None
item_before waiting.Negate m = Some item.Negate
item_before (waiting.Reverse at) m = unless_operation m item.Reverse
item_before waiting.Multiply m = Some item.Multiply
item_before waiting.Divide m = Some item.Divide
item_before waiting.Add m = unless_product m item.Add
item_before waiting.Subtract m = unless_product m item.Subtract

-- what waits innermost
abbrev pub innermost : List Waiting → Option Waiting
innermost [] = None
innermost (w ∷ below) = Some w

-- what is written of the innermost
abbrev pub first_before : Option Waiting → TokenMark → Option Item
first_before None m = None
first_before (Some w) m = item_before w m

-- an item before the others, where there is one; else none
abbrev pub written_by : Option Item → List Item → List Item
written_by (Some i) rest = i ∷ rest
written_by None rest = []

-- all that is written before a token, the innermost first
unfoldable pub all_before : List Waiting → TokenMark → List Item
all_before [] m = []
all_before (w ∷ below) m = written_by (item_before w m) (all_before below m)

-- what waits on after an item that is written, or all where none is
abbrev pub kept_by : Option Item → List Waiting → List Waiting → List Waiting
kept_by (Some i) rest all = rest
kept_by None rest all = all

-- what waits on after all that is written before a token
unfoldable pub kept_before : List Waiting → TokenMark → List Waiting
kept_before [] m = []
kept_before (w ∷ below) m = kept_by (item_before w m) (kept_before below m) (w ∷ below)

-- a `::` waits innermost
abbrev pub is_reverse : Option Waiting → Bool
is_reverse (Some (waiting.Reverse at)) = true
is_reverse _ = false

-- nothing waits in the innermost parenthesis
abbrev pub is_level : Option Waiting → Bool
is_level None = true
is_level (Some waiting.Paren) = true
is_level _ = false

-- one more opening, where there is room for it
abbrev pub opened : ℕ → List Waiting → Waiting → Result (Option Waiting) ExprRefusal
opened at ws w = if nat_lt (openings ws) most_open then Ok (Some w) else Err (misplaced at TooDeep)

-- a sign, which may not come after a `::`
abbrev pub sign_at : ℕ → List Waiting → Result (Option Waiting) ExprRefusal
sign_at at ws = if is_reverse (innermost ws) then Err (misplaced at Syntax) else opened at ws waiting.Negate

-- a `::`, which may not come after another, and only at the beginning of its parenthesis
abbrev pub reverse_at : ℕ → List Waiting → Result (Option Waiting) ExprRefusal
reverse_at at ws =
    if is_reverse (innermost ws) then Err (misplaced at Syntax) else
    if is_level (innermost ws) then opened at ws (waiting.Reverse at) else
    if nat_lt (openings ws) most_open then Err (misplaced at Ambiguous) else Err (misplaced at TooDeep)

-- what a token opens where an operand is wanted: nothing, where it is a value
abbrev pub opening : TokenMark → ℕ → List Waiting → Result (Option Waiting) ExprRefusal
opening mark.Value at ws = Ok None
opening mark.Open at ws = opened at ws waiting.Paren
opening mark.Minus at ws = sign_at at ws
opening mark.Reverse at ws = reverse_at at ws
opening _ at ws = Err (misplaced at Syntax)

-- a parenthesis is closed
abbrev pub close_by : TokenMark → ℕ → Result Turn ExprRefusal
close_by mark.Close at = Ok Closed
close_by _ at = Err (misplaced at Syntax)

-- what a token does after an operand where nothing is left to write before it: what waits innermost is
-- a parenthesis or nothing, unless it is an operation
abbrev pub turn_without : Option Waiting → TokenMark → ℕ → Result Turn ExprRefusal
turn_without None m at = Ok End
turn_without (Some w) m at = close_by m at

-- the same where the token is an operation: it may not be beside a `::`
abbrev pub turn_with : Option Waiting → Waiting → Result Turn ExprRefusal
turn_with (Some (waiting.Reverse at)) operation = Err (misplaced at Ambiguous)
turn_with _ operation = Ok (Operation operation)

-- the same of every token, by the operation that it is
abbrev pub turn_by : Option Waiting → Option Waiting → TokenMark → ℕ → Result Turn ExprRefusal
turn_by (Some operation) inner m at = turn_with inner operation
turn_by None inner m at = turn_without inner m at
