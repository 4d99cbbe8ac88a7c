-- What an expression is worth under symbols (Pico SDK manual, section 3.3.2; what it leaves open is a choice of this profile).
--   Symbols, Scope     the symbols that are set: the globals, and those of one program
--   found              the symbol that a name is, looked up in a program or among the globals
--   worked_out         an expression in postfix order, once its names have values
--   name_value         the value of a name, with the symbols that are under way
--   value_of           the value of an expression
use Rattle.std.specs.Prelude.{◌≡◌, ℕ, zero, suc, ◌+◌, ◌-◌, ℤ, pos, Bool, true, false, List, [], ◌∷◌, ◌++◌, length, Option, Some, None, Result, Ok, Err, nat_eq, nat_le, option_map, if◌then◌else◌}
use Rattle.std.specs.List.{list_any}
use Rattle.std.specs.Str.{bytes_eq}
use Rattle.pio_expr.specs.declared.expr.Item.{Item}
use Rattle.pio_expr.specs.declared.expr.Item.TheVariants as item
use Rattle.pio_expr.specs.declared.symbol.Symbol.{Symbol}
use Rattle.pio_expr.specs.declared.symbol.Symbol.TheVariants.{Define, Label}
use Rattle.pio_expr.specs.declared.fault.ValueKind.{ValueKind}
use Rattle.pio_expr.specs.declared.fault.ValueKind.TheVariants.{Unknown, Cycle}
use Rattle.pio_expr.specs.declared.fault.ValueFault.{ValueFault}
use Rattle.pio_expr.specs.declared.fault.ValueFault.TheVariants as value_fault
use Rattle.answers.specs.Answers as answers
use Rattle.answers.specs.Answers.{◌>>=◌}
use Rattle.pio_expr.specs.Faults.{value_told}
use Rattle.pio_expr.specs.Arithmetic.{sum_of, difference_of, product_of, quotient_of, negated, reversed}

-- names with what they are, in the order in which they were set
abbrev pub Symbols : Type 0
Symbols = List (List ℕ × Symbol)

-- the symbols of a file so far: the globals, and those of the present program, once one has begun
pub record Scope : Type 0 where
  pub globals : Symbols
  pub program : Option Symbols

-- the symbols of the present program; none, where no program has begun
abbrev pub symbols_or_none : Option Symbols → Symbols
symbols_or_none (Some symbols) = symbols
symbols_or_none None = []

-- the symbols of a scope's program
abbrev pub program_of : Scope → Symbols
program_of scope = symbols_or_none scope.program

-- what a name is, with its place
abbrev pub Found : Type 0
Found = Option (ℕ × Symbol)

-- the first symbol of a name in a list that begins at a place
unfoldable pub found_in : ℕ → Symbols → List ℕ → Found
found_in place [] name = None
found_in place (s ∷ symbols) name = if bytes_eq name s.0 then Some (place, s.1) else found_in (place + 1) symbols name

-- the symbol of a program, or else the global
abbrev pub or_global : Symbols → List ℕ → Found → Found
or_global globals name (Some symbol) = Some symbol
or_global globals name None = found_in 0 globals name

-- the symbol that a name is, looked up in the program first, or among the globals alone. Its place tells it from all others:
-- the places of the globals are 0, 1, .., and those of the program's symbols go on from there
abbrev pub found : Scope → Bool → List ℕ → Found
found scope true name = or_global scope.globals name (found_in (length scope.globals) (program_of scope) name)
found scope false name = found_in 0 scope.globals name

-- what a name is for an expression that is asked
abbrev pub symbol_of : Scope → List ℕ → Option Symbol
symbol_of scope name = option_map (λ s. s.1) (found scope true name)

-- the symbol of this place is in the program, so the names in its expression are looked up there first
abbrev pub in_program : Scope → ℕ → Bool
in_program scope place = nat_le (length scope.globals) place

-- the last number in front of an item. There is always one: an expression that is read is a tree's postfix order, and is worth
-- what the tree is, where no operand can be missing (the law `an_expression_is_a_tree`)
abbrev pub first_of : List ℤ → ℤ
first_of [] = pos 0
first_of (n ∷ numbers) = n

-- the numbers without the first
abbrev pub after_first : List ℤ → List ℤ
after_first [] = []
after_first (n ∷ numbers) = numbers

-- the number that an item gives, on the numbers before it, the last in front
abbrev pub number_by : (List ℕ → Result ℤ ValueKind) → Item → List ℤ → Result ℤ ValueKind
number_by named (item.Number n) numbers = Ok n
number_by named (item.Name name) numbers = named name
number_by named item.Add numbers = sum_of (first_of (after_first numbers)) (first_of numbers)
number_by named item.Subtract numbers = difference_of (first_of (after_first numbers)) (first_of numbers)
number_by named item.Multiply numbers = product_of (first_of (after_first numbers)) (first_of numbers)
number_by named item.Divide numbers = quotient_of (first_of (after_first numbers)) (first_of numbers)
number_by named item.Negate numbers = negated (first_of numbers)
number_by named item.Reverse numbers = Ok (reversed (first_of numbers))

-- the numbers that an item leaves, without those that it takes
abbrev pub left_by : Item → List ℤ → List ℤ
left_by (item.Number n) numbers = numbers
left_by (item.Name name) numbers = numbers
left_by item.Negate numbers = after_first numbers
left_by item.Reverse numbers = after_first numbers
left_by _ numbers = after_first (after_first numbers)

-- an expression in postfix order, from left to right up to the first fault, on the numbers before it
unfoldable pub worked_out : (List ℕ → Result ℤ ValueKind) → List Item → List ℤ → Result ℤ ValueKind
worked_out named [] numbers = Ok (first_of numbers)
worked_out named (i ∷ items) numbers = number_by named i numbers >>= λ n. worked_out named items (n ∷ left_by i numbers)

-- the value of a name by its symbol: a label's number, and what a define of this place and expression gives
abbrev pub by_symbol : {T : Type 0} → (ℤ → T) → (ℕ → List Item → Result T ValueKind) → List ℕ → Found → Result T ValueKind
by_symbol label define name None = Err (Unknown name)
by_symbol label define name (Some (place, Label n)) = Ok (label (pos n))
by_symbol label define name (Some (place, Define items)) = define place items

-- the place is on the list
abbrev pub is_among : List ℕ → ℕ → Bool
is_among places place = list_any (nat_eq place) places

-- the value of a name, with the places of the symbols under way, the newest in front. The count says how many more can be
-- under way: where there is none, each symbol is
unfoldable pub name_value : ℕ → Scope → List ℕ → Bool → List ℕ → Result ℤ ValueKind
name_value zero scope under local name = by_symbol (λ n. n) (λ place items. Err (Cycle name)) name (found scope local name)
name_value (suc more) scope under local name =
    by_symbol (λ n. n) (λ place items. if is_among under place then Err (Cycle name) else worked_out (name_value more scope (place ∷ under) (in_program scope place)) items []) name (found scope local name)

-- how many symbols there are
abbrev pub count_of : Scope → ℕ
count_of scope = length scope.globals + length (program_of scope)

-- the value of an expression that is at this place: of a symbol that is under way then, or of none
abbrev pub value_at : Scope → Option ℕ → List Item → Result ℤ ValueKind
value_at scope None items = worked_out (name_value (count_of scope) scope [] true) items []
value_at scope (Some place) items = worked_out (name_value (count_of scope - 1) scope (place ∷ []) (in_program scope place)) items []

-- the place of a symbol
abbrev pub place_of : Scope → List ℕ → Option ℕ
place_of scope name = option_map (λ s. s.0) (found scope true name)

-- the place where an expression is: that of the symbol whose own expression it is, if it is one's
abbrev pub own_place : Scope → Option (List ℕ) → Option ℕ
own_place scope None = None
own_place scope (Some name) = place_of scope name

-- an expression is own to a symbol where it is that of its define
abbrev pub IsOwnTo : Scope → Option (List ℕ) → List Item → Type 0
IsOwnTo scope None items = Unit {0}
IsOwnTo scope (Some name) items = symbol_of scope name ≡ Some (Define items)

-- the value of an expression, own to a symbol or to none, or its first fault
abbrev pub value_of : Scope → Option (List ℕ) → List Item → Result ℤ ValueKind
value_of scope own items = value_at scope (own_place scope own) items

-- the value of a name where an expression is asked
abbrev pub value_of_name : Scope → List ℕ → Result ℤ ValueKind
value_of_name scope name = name_value (count_of scope) scope [] true name

-- a returned fault is the answer, or memory ran out
abbrev pub IsValueFaultOf : {T : Type 0} → ValueFault → Result T ValueKind → Type 0
IsValueFaultOf fault answer = answers.Refuses (value_told fault) answer

-- a fault tells this, or memory ran out
abbrev pub Tells : ValueFault → ValueKind → Type 0
Tells value_fault.Memory kind = Unit {0}
Tells (value_fault.Found told) kind = told ≡ kind

-- a returned value is the answer, or a returned fault is; want of memory is allowed
abbrev pub Gives : Result ℤ ValueFault → Result ℤ ValueKind → Type 0
Gives result answer = answers.Answers value_told result answer

-- the scope without symbols
abbrev pub no_symbols : Scope
no_symbols = record { globals = []; program = None }

-- a scope where a program without symbols has just begun
abbrev pub begun : Scope → Scope
begun scope = record { globals = scope.globals; program = Some [] }

-- the symbols to which one more is added: those of the program, once one has begun
abbrev pub present : Scope → Option Symbols → Symbols
present scope (Some symbols) = symbols
present scope None = scope.globals

-- no symbol there has this name
abbrev pub IsNew : Scope → List ℕ → Type 0
IsNew scope name = found_in 0 (present scope scope.program) name ≡ None

-- a scope with one symbol more, at the end
abbrev pub with_symbol_by : Scope → List ℕ × Symbol → Option Symbols → Scope
with_symbol_by scope symbol (Some symbols) = record { globals = scope.globals; program = Some (symbols ++ symbol ∷ []) }
with_symbol_by scope symbol None = record { globals = scope.globals ++ symbol ∷ []; program = None }

-- a scope with one symbol more
abbrev pub with_symbol : Scope → List ℕ → Symbol → Scope
with_symbol scope name symbol = with_symbol_by scope (name, symbol) scope.program
