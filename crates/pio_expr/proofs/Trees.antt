-- What the grammar reads is the postfix order of a tree, and is worth what the tree is.
use Rattle.std.proofs.Common.{◌≡◌, ℕ, zero, suc, ◌+◌, ℤ, pos, List, [], ◌∷◌, ◌++◌, length, Option, Some, None, Result, Ok, Err, refl, ap, sym, subst, ◌∙◌, append_assoc, append-nil, slice_get, slice_range}
use Rattle.answers.specs.Answers.{◌>>=◌}
use Rattle.pio_lex.specs.declared.token.TokenKind.{TokenKind}
use Rattle.pio_lex.specs.declared.token.TokenKind.TheVariants as kind
use Rattle.pio_lex.specs.declared.token.Token.{Token}
use Rattle.pio_expr.specs.declared.expr.Item.{Item}
use Rattle.pio_expr.specs.declared.expr.Item.TheVariants as item
use Rattle.pio_expr.specs.declared.fault.ExprRefusal.{ExprRefusal}
use Rattle.pio_expr.specs.declared.fault.ValueKind.{ValueKind}
use Rattle.pio_expr.specs.declared.mark.TokenMark.{TokenMark}
use Rattle.pio_expr.specs.declared.mark.TokenMark.TheVariants as mark
use Rattle.pio_expr.specs.Marks.{mark_at, mark_by}
use Rattle.pio_expr.specs.Arithmetic.{sum_of, difference_of, product_of, quotient_of, negated, reversed}
use Rattle.pio_expr.specs.Grammar.{Progress, ParseResult, Parser, Readers, then, next, written, item_by, items_by, value_read, chain, chain_by, product_operation, sum_operation, product_by, product_goes_on, sum_by, sum_goes_on, closed, closed_by, alone, alone_by, value_by, unary_by, level_by, readers_by, readers, read_items, most_open, expression_at}
use Rattle.pio_expr.specs.Values.{worked_out}
use Rattle.pio_expr.specs.Trees.{Tree, Number, Name, Add, Subtract, Multiply, Divide, Negate, Reverse, postfix, of_both, tree_value, HasTree}

-- ---- values

-- an operation, before what comes after it
both_after : (xs ys rest : List Item) (op : Item) → (xs ++ ys ++ op ∷ []) ++ rest ≡ xs ++ (ys ++ op ∷ rest)
both_after xs ys rest op = append_assoc (xs ++ ys) (op ∷ []) rest ∙ append_assoc xs ys (op ∷ rest)

one_after : (xs rest : List Item) (op : Item) → (xs ++ op ∷ []) ++ rest ≡ xs ++ op ∷ rest
one_after xs rest op = append_assoc xs (op ∷ []) rest

-- an operation after its two operands
binary : (named : List ℕ → Result ℤ ValueKind) (f : ℤ → ℤ → Result ℤ ValueKind) (op : Item) (left right : Result ℤ ValueKind) (xs ys rest : List Item) (ns : List ℤ)
    → worked_out named (xs ++ (ys ++ op ∷ rest)) ns ≡ (left >>= λ m. worked_out named (ys ++ op ∷ rest) (m ∷ ns))
    → ((m : ℤ) → worked_out named (ys ++ op ∷ rest) (m ∷ ns) ≡ (right >>= λ n. worked_out named (op ∷ rest) (n ∷ m ∷ ns)))
    → ((m n : ℤ) → worked_out named (op ∷ rest) (n ∷ m ∷ ns) ≡ (f m n >>= λ k. worked_out named rest (k ∷ ns)))
    → worked_out named ((xs ++ ys ++ op ∷ []) ++ rest) ns ≡ (of_both f left right >>= λ n. worked_out named rest (n ∷ ns))
binary named f op left right xs ys rest ns first second both =
    ap (λ items. worked_out named items ns) (both_after xs ys rest op) ∙ first ∙ by left right second where
      by : (a b : Result ℤ ValueKind) → ((m : ℤ) → worked_out named (ys ++ op ∷ rest) (m ∷ ns) ≡ (b >>= λ n. worked_out named (op ∷ rest) (n ∷ m ∷ ns)))
          → (a >>= λ m. worked_out named (ys ++ op ∷ rest) (m ∷ ns)) ≡ (of_both f a b >>= λ n. worked_out named rest (n ∷ ns))
      by (Err kind) b second' = refl
      by (Ok m) (Err kind) second' = second' m
      by (Ok m) (Ok n) second' = second' m ∙ both m n

-- an operation after its one operand
unary : (named : List ℕ → Result ℤ ValueKind) (f : ℤ → Result ℤ ValueKind) (op : Item) (operand : Result ℤ ValueKind) (xs rest : List Item) (ns : List ℤ)
    → worked_out named (xs ++ op ∷ rest) ns ≡ (operand >>= λ n. worked_out named (op ∷ rest) (n ∷ ns))
    → ((n : ℤ) → worked_out named (op ∷ rest) (n ∷ ns) ≡ (f n >>= λ k. worked_out named rest (k ∷ ns)))
    → worked_out named ((xs ++ op ∷ []) ++ rest) ns ≡ ((operand >>= f) >>= λ n. worked_out named rest (n ∷ ns))
unary named f op operand xs rest ns first one = ap (λ items. worked_out named items ns) (one_after xs rest op) ∙ first ∙ by operand where
  by : (a : Result ℤ ValueKind) → (a >>= λ n. worked_out named (op ∷ rest) (n ∷ ns)) ≡ ((a >>= f) >>= λ n. worked_out named rest (n ∷ ns))
  by (Err kind) = refl
  by (Ok n) = one n

-- a tree's items leave its value on the numbers before them
worked_tree : (named : List ℕ → Result ℤ ValueKind) (t : Tree) (rest : List Item) (ns : List ℤ) → worked_out named (postfix t ++ rest) ns ≡ (tree_value named t >>= λ n. worked_out named rest (n ∷ ns))
unfolding postfix tree_value worked_out
worked_tree named (Number n) rest ns = refl
worked_tree named (Name name) rest ns = refl
worked_tree named (Add a b) rest ns =
    binary named sum_of item.Add (tree_value named a) (tree_value named b) (postfix a) (postfix b) rest ns (worked_tree named a (postfix b ++ item.Add ∷ rest) ns) (λ m. worked_tree named b (item.Add ∷ rest) (m ∷ ns)) (λ m n. refl)
worked_tree named (Subtract a b) rest ns =
    binary named difference_of item.Subtract (tree_value named a) (tree_value named b) (postfix a) (postfix b) rest ns (worked_tree named a (postfix b ++ item.Subtract ∷ rest) ns) (λ m. worked_tree named b (item.Subtract ∷ rest) (m ∷ ns)) (λ m n. refl)
worked_tree named (Multiply a b) rest ns =
    binary named product_of item.Multiply (tree_value named a) (tree_value named b) (postfix a) (postfix b) rest ns (worked_tree named a (postfix b ++ item.Multiply ∷ rest) ns) (λ m. worked_tree named b (item.Multiply ∷ rest) (m ∷ ns)) (λ m n. refl)
worked_tree named (Divide a b) rest ns =
    binary named quotient_of item.Divide (tree_value named a) (tree_value named b) (postfix a) (postfix b) rest ns (worked_tree named a (postfix b ++ item.Divide ∷ rest) ns) (λ m. worked_tree named b (item.Divide ∷ rest) (m ∷ ns)) (λ m n. refl)
worked_tree named (Negate a) rest ns = unary named negated item.Negate (tree_value named a) (postfix a) rest ns (worked_tree named a (item.Negate ∷ rest) ns) (λ n. refl)
worked_tree named (Reverse a) rest ns = unary named (λ n. Ok (reversed n)) item.Reverse (tree_value named a) (postfix a) rest ns (worked_tree named a (item.Reverse ∷ rest) ns) (λ n. refl)

last_left : (r : Result ℤ ValueKind) → (r >>= λ n. Ok n) ≡ r
last_left (Ok n) = refl
last_left (Err kind) = refl

pub value_of_tree : (named : List ℕ → Result ℤ ValueKind) (t : Tree) → worked_out named (postfix t) [] ≡ tree_value named t
unfolding worked_out
value_of_tree named t = ap (λ items. worked_out named items []) (sym (append-nil (postfix t))) ∙ worked_tree named t [] [] ∙ last_left (tree_value named t)

-- ---- the grammar

-- a tree was written after these items
abbrev Wrote : List Item → ParseResult → Type 0
Wrote before (Ok place) = (t : Tree) × (place.items ≡ before ++ postfix t)
Wrote before (Err fault) = Unit {0}

-- a rule writes a tree
abbrev Writes : Parser → Type 0
Writes reader = (place : Progress) → Wrote place.items (reader place)

-- a rule after another
wrote_then : (before : List Item) (read : ParseResult) (reader : Parser) → Wrote before read → ((place : Progress) (t : Tree) → place.items ≡ before ++ postfix t → Wrote before (reader place)) → Wrote before (then read reader)
wrote_then before (Ok place) reader h on = on place h.0 h.1
wrote_then before (Err fault) reader h on = tt

-- an operation has a tree of its operands
abbrev Joins : Item → Type 0
Joins op = (join : Tree → Tree → Tree) × ((a b : Tree) → postfix (join a b) ≡ postfix a ++ postfix b ++ op ∷ [])

abbrev AllJoin : (TokenMark → Option Item) → Type 0
AllJoin operation_of = (m : TokenMark) (op : Item) → operation_of m ≡ Some op → Joins op

joins_is : (op other : Item) → Some op ≡ Some other → Joins op → Joins other
joins_is op other e j = let same : op ≡ other = cc in subst Joins same j

product_joins : AllJoin product_operation
unfolding postfix
product_joins mark.Star op e = joins_is item.Multiply op e (Multiply, λ a b. refl)
product_joins mark.Slash op e = joins_is item.Divide op e (Divide, λ a b. refl)
product_joins mark.Value op e = cc
product_joins mark.Open op e = cc
product_joins mark.Close op e = cc
product_joins mark.Plus op e = cc
product_joins mark.Minus op e = cc
product_joins mark.Reverse op e = cc
product_joins mark.Other op e = cc

sum_joins : AllJoin sum_operation
unfolding postfix
sum_joins mark.Plus op e = joins_is item.Add op e (Add, λ a b. refl)
sum_joins mark.Minus op e = joins_is item.Subtract op e (Subtract, λ a b. refl)
sum_joins mark.Value op e = cc
sum_joins mark.Open op e = cc
sum_joins mark.Close op e = cc
sum_joins mark.Star op e = cc
sum_joins mark.Slash op e = cc
sum_joins mark.Reverse op e = cc
sum_joins mark.Other op e = cc

-- an operation after two trees, which were written after these items
joined : (before items : List Item) (t u : Tree) (op : Item) → (j : Joins op) → items ≡ (before ++ postfix t) ++ postfix u → items ++ op ∷ [] ≡ before ++ postfix (j.0 t u)
joined before items t u op j h =
    ap (λ xs. xs ++ op ∷ []) (h ∙ append_assoc before (postfix t) (postfix u)) ∙ append_assoc before (postfix t ++ postfix u) (op ∷ []) ∙ ap (λ xs. before ++ xs) (sym (j.1 t u))

chain_step : (before : List Item) (t : Tree) (place : Progress) (operand : Parser) (goes_on : Item → Parser) → place.items ≡ before ++ postfix t → Writes operand
    → ((op : Item) (v : Tree) (after : Progress) → after.items ++ op ∷ [] ≡ before ++ postfix v → Wrote before (goes_on op after))
    → (o : Option Item) → ((op : Item) → o ≡ Some op → Joins op) → Wrote before (chain_by operand goes_on o place)
chain_step before t place operand goes_on e writes on None joins = (t, e)
chain_step before t place operand goes_on e writes on (Some op) joins = by_operand (operand (next place)) (writes (next place)) (joins op refl) where
  by_operand : (read : ParseResult) → Wrote place.items read → Joins op → Wrote before (then read (goes_on op))
  by_operand (Err fault) h j = tt
  by_operand (Ok after) h j = on op (j.0 t h.0) after (joined before after.items t h.0 op j (h.1 ∙ ap (λ xs. xs ++ postfix h.0) e))

-- operations after a first operand
chain_writes : (tokens : List Token) (operation_of : TokenMark → Option Item) (operand : Parser) → AllJoin operation_of → Writes operand → (n : ℕ) (before : List Item) (t : Tree) (place : Progress) → place.items ≡ before ++ postfix t → Wrote before (chain tokens operation_of operand n place)
unfolding chain
chain_writes tokens operation_of operand joins writes zero before t place e = (t, e)
chain_writes tokens operation_of operand joins writes (suc n) before t place e =
    chain_step before t place operand (λ op after. chain tokens operation_of operand n (written op after)) e writes
    (λ op v after h. chain_writes tokens operation_of operand joins writes n before v (written op after) h) (operation_of (mark_at tokens place.at)) (λ op h. joins (mark_at tokens place.at) op h)

product_writes : (tokens : List Token) (operand : Parser) → Writes operand → Writes (product_by tokens operand)
product_writes tokens operand writes place = wrote_then place.items (operand place) (product_goes_on tokens operand) (writes place) (λ after t e. chain_writes tokens product_operation operand product_joins writes (length tokens) place.items t after e)

sum_writes : (tokens : List Token) (operand : Parser) → Writes operand → Writes (sum_by tokens operand)
sum_writes tokens operand writes place = wrote_then place.items (product_by tokens operand place) (sum_goes_on tokens operand) (product_writes tokens operand writes place) (λ after t e. chain_writes tokens sum_operation (product_by tokens operand) sum_joins (product_writes tokens operand writes) (length tokens) place.items t after e)

-- a `)` writes nothing
closed_writes : (tokens : List Token) (before : List Item) (place : Progress) (t : Tree) → place.items ≡ before ++ postfix t → Wrote before (closed tokens place)
closed_writes tokens before place t e = by (mark_at tokens place.at) where
  by : (m : TokenMark) → Wrote before (closed_by m place)
  by mark.Close = (t, e)
  by _ = tt

-- an operation of one operand
one_more : (before : List Item) (t u : Tree) (op : Item) (items : List Item) → postfix u ≡ postfix t ++ op ∷ [] → items ≡ before ++ postfix t → items ++ op ∷ [] ≡ before ++ postfix u
one_more before t u op items is e = ap (λ xs. xs ++ op ∷ []) e ∙ append_assoc before (postfix t) (op ∷ []) ∙ ap (λ xs. before ++ xs) (sym is)

alone_writes : (tokens : List Token) (at : ℕ) (before : List Item) (place : Progress) (t : Tree) → place.items ≡ before ++ postfix t → Wrote before (alone tokens at place)
unfolding postfix
alone_writes tokens at before place t e = by (mark_at tokens place.at) where
  by : (m : TokenMark) → Wrote before (alone_by m at (written item.Reverse place))
  by mark.Star = tt
  by mark.Slash = tt
  by mark.Plus = tt
  by mark.Minus = tt
  by _ = (Reverse t, one_more before t (Reverse t) item.Reverse place.items refl e)

-- a value is a tree
token_tree : (source : List ℕ) (k : TokenKind) (first size : ℕ) → (t : Tree) × (item_by source k first size ∷ [] ≡ postfix t)
unfolding postfix
token_tree source (kind.Number value) first size = (Number (pos value), refl)
token_tree source _ first size = (Name (slice_range source first (first + size)), refl)

value_writes : (source : List ℕ) (tokens : List Token) (place : Progress) → mark_at tokens place.at ≡ mark.Value → Wrote place.items (Ok (value_read source tokens place))
unfolding mark_at value_read
value_writes source tokens place is = by (slice_get tokens place.at) is where
  by : (o : Option Token) → mark_by o ≡ mark.Value → (t : Tree) × (place.items ++ items_by source o ≡ place.items ++ postfix t)
  by None e = cc
  by (Some token) e = let t = token_tree source token.kind token.first token.length in (t.0, ap (λ xs. place.items ++ xs) t.1)

-- the rules of a depth
record WriteAll (rules : Readers) : Type 0 where
  value : Writes rules.value
  unary : Writes rules.unary
  level : Writes rules.level

abbrev DeeperWrite : Option Readers → Type 0
DeeperWrite None = Unit {0}
DeeperWrite (Some rules) = WriteAll rules

value_by_writes : (source : List ℕ) (tokens : List Token) (deeper : Option Readers) → DeeperWrite deeper → (m : TokenMark) (place : Progress) → mark_at tokens place.at ≡ m → Wrote place.items (value_by source tokens m deeper place)
value_by_writes source tokens deeper all mark.Value place is = value_writes source tokens place is
value_by_writes source tokens None all mark.Open place is = tt
value_by_writes source tokens (Some rules) all mark.Open place is = wrote_then place.items (rules.level (next place)) (closed tokens) (all.level (next place)) (λ after t e. closed_writes tokens place.items after t e)
value_by_writes source tokens deeper all mark.Close place is = tt
value_by_writes source tokens deeper all mark.Plus place is = tt
value_by_writes source tokens deeper all mark.Minus place is = tt
value_by_writes source tokens deeper all mark.Star place is = tt
value_by_writes source tokens deeper all mark.Slash place is = tt
value_by_writes source tokens deeper all mark.Reverse place is = tt
value_by_writes source tokens deeper all mark.Other place is = tt

unary_by_writes : (source : List ℕ) (tokens : List Token) (deeper : Option Readers) → DeeperWrite deeper → (m : TokenMark) (place : Progress) → mark_at tokens place.at ≡ m → Wrote place.items (unary_by source tokens m deeper place)
unfolding postfix
unary_by_writes source tokens None all mark.Minus place is = tt
unary_by_writes source tokens (Some rules) all mark.Minus place is =
    wrote_then place.items (rules.unary (next place)) (λ after. Ok (written item.Negate after)) (all.unary (next place)) (λ after t e. (Negate t, one_more place.items t (Negate t) item.Negate after.items refl e))
unary_by_writes source tokens None all mark.Reverse place is = tt
unary_by_writes source tokens (Some rules) all mark.Reverse place is = tt
unary_by_writes source tokens deeper all mark.Value place is = value_by_writes source tokens deeper all mark.Value place is
unary_by_writes source tokens deeper all mark.Open place is = value_by_writes source tokens deeper all mark.Open place is
unary_by_writes source tokens deeper all mark.Close place is = tt
unary_by_writes source tokens deeper all mark.Plus place is = tt
unary_by_writes source tokens deeper all mark.Star place is = tt
unary_by_writes source tokens deeper all mark.Slash place is = tt
unary_by_writes source tokens deeper all mark.Other place is = tt

level_by_writes : (source : List ℕ) (tokens : List Token) (deeper : Option Readers) → DeeperWrite deeper → (unary : Parser) → Writes unary → (m : TokenMark) (place : Progress) → Wrote place.items (level_by source tokens m deeper unary place)
level_by_writes source tokens None all unary writes mark.Reverse place = tt
level_by_writes source tokens (Some rules) all unary writes mark.Reverse place = wrote_then place.items (rules.value (next place)) (alone tokens place.at) (all.value (next place)) (λ after t e. alone_writes tokens place.at place.items after t e)
level_by_writes source tokens deeper all unary writes mark.Value place = sum_writes tokens unary writes place
level_by_writes source tokens deeper all unary writes mark.Open place = sum_writes tokens unary writes place
level_by_writes source tokens deeper all unary writes mark.Close place = sum_writes tokens unary writes place
level_by_writes source tokens deeper all unary writes mark.Plus place = sum_writes tokens unary writes place
level_by_writes source tokens deeper all unary writes mark.Minus place = sum_writes tokens unary writes place
level_by_writes source tokens deeper all unary writes mark.Star place = sum_writes tokens unary writes place
level_by_writes source tokens deeper all unary writes mark.Slash place = sum_writes tokens unary writes place
level_by_writes source tokens deeper all unary writes mark.Other place = sum_writes tokens unary writes place

by_writes : (source : List ℕ) (tokens : List Token) (deeper : Option Readers) → DeeperWrite deeper → WriteAll (readers_by source tokens deeper)
by_writes source tokens deeper all =
    let unary : Writes (readers_by source tokens deeper).unary = λ place. unary_by_writes source tokens deeper all (mark_at tokens place.at) place refl in
    record {
      value = λ place. value_by_writes source tokens deeper all (mark_at tokens place.at) place refl;
      unary = unary;
      level = λ place. level_by_writes source tokens deeper all (readers_by source tokens deeper).unary unary (mark_at tokens place.at) place;
    }

all_write : (source : List ℕ) (tokens : List Token) (n : ℕ) → WriteAll (readers source tokens n)
unfolding readers
all_write source tokens zero = by_writes source tokens None tt
all_write source tokens (suc n) = by_writes source tokens (Some (readers source tokens n)) (all_write source tokens n)

items_or : List Item → Result (List Item × ℕ) ExprRefusal → List Item
items_or none (Ok read) = read.0
items_or none (Err refusal) = none

-- an expression that is read is the postfix order of a tree
pub read_is_tree : (source : List ℕ) (tokens : List Token) (from after : ℕ) (items : List Item) → expression_at source tokens from ≡ Ok (items, after) → HasTree items
unfolding expression_at items_or
read_is_tree source tokens from after items h = by ((readers source tokens most_open).level (record { at = from; items = [] })) ((all_write source tokens most_open).level (record { at = from; items = [] })) h where
  by : (read : ParseResult) → Wrote [] read → read_items read ≡ Ok (items, after) → HasTree items
  by (Err fault) wrote e = cc
  by (Ok place) wrote e = let same : place.items ≡ items = ap (items_or []) e in (wrote.0, sym same ∙ wrote.1)
