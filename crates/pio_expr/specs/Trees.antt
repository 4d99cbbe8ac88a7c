-- An expression as a tree: what its postfix order is for, and its value without a stack.
--   Tree          a number, a name, or an operation with its operands
--   postfix       its items, operands before their operation
--   tree_value    its value, operands from left to right, up to the first fault
use Rattle.std.specs.Prelude.{◌≡◌, ℕ, ℤ, List, [], ◌∷◌, ◌++◌, Result, Ok}
use Rattle.answers.specs.Answers.{◌>>=◌}
use Rattle.pio_expr.specs.declared.expr.Item.{Item}
use Rattle.pio_expr.specs.declared.expr.Item.TheVariants as item
use Rattle.pio_expr.specs.declared.fault.ValueKind.{ValueKind}
use Rattle.pio_expr.specs.Arithmetic.{sum_of, difference_of, product_of, quotient_of, negated, reversed}

-- a number, a name, or an operation with its operands
pub data Tree : Type 0 where
  Number : ℤ → Tree
  Name : List ℕ → Tree
  Add : Tree → Tree → Tree
  Subtract : Tree → Tree → Tree
  Multiply : Tree → Tree → Tree
  Divide : Tree → Tree → Tree
  Negate : Tree → Tree
  Reverse : Tree → Tree

-- its items in postfix order: each operation after its operands
unfoldable pub postfix : Tree → List Item
postfix (Number n) = item.Number n ∷ []
postfix (Name name) = item.Name name ∷ []
postfix (Add left right) = postfix left ++ postfix right ++ item.Add ∷ []
postfix (Subtract left right) = postfix left ++ postfix right ++ item.Subtract ∷ []
postfix (Multiply left right) = postfix left ++ postfix right ++ item.Multiply ∷ []
postfix (Divide left right) = postfix left ++ postfix right ++ item.Divide ∷ []
postfix (Negate operand) = postfix operand ++ item.Negate ∷ []
postfix (Reverse operand) = postfix operand ++ item.Reverse ∷ []

-- the result of an operation on the values of its two operands, or the first fault
abbrev pub of_both : (ℤ → ℤ → Result ℤ ValueKind) → Result ℤ ValueKind → Result ℤ ValueKind → Result ℤ ValueKind
of_both operation left right = left >>= λ a. right >>= λ b. operation a b

-- its value, where names have these
unfoldable pub tree_value : (List ℕ → Result ℤ ValueKind) → Tree → Result ℤ ValueKind
tree_value named (Number n) = Ok n
tree_value named (Name name) = named name
tree_value named (Add left right) = of_both sum_of (tree_value named left) (tree_value named right)
tree_value named (Subtract left right) = of_both difference_of (tree_value named left) (tree_value named right)
tree_value named (Multiply left right) = of_both product_of (tree_value named left) (tree_value named right)
tree_value named (Divide left right) = of_both quotient_of (tree_value named left) (tree_value named right)
tree_value named (Negate operand) = tree_value named operand >>= negated
tree_value named (Reverse operand) = tree_value named operand >>= λ n. Ok (reversed n)

-- items are the postfix order of some tree
abbrev pub HasTree : List Item → Type 0
HasTree items = (tree : Tree) × (items ≡ postfix tree)
