-- How an expression is worked out without recursion: the words of this crate's private clauses. A frame is an expression
-- that is being worked out; it rests at a name whose symbol isn't worked out yet, while that symbol's frame is.
--   Kept               the places whose values are known, the oldest first
--   looked_up          what a name is then: a number, a fault, or a define whose value is wanted first
--   AreKept            each kept value comes from those kept before it
--   Agrees             values of names that are those which a frame uses
use Rattle.std.specs.Prelude.{◌≡◌, ℕ, ◌<◌, ℤ, pos, Bool, true, false, List, [], ◌∷◌, ◌++◌, take, Option, Some, None, Result, Ok, Err, nat_eq, option_map, slice_get}
use Rattle.std.specs.Map.{lookup}
use Rattle.pio_expr.specs.declared.expr.Item.{Item}
use Rattle.pio_expr.specs.declared.expr.Item.TheVariants as item
use Rattle.pio_expr.specs.declared.symbol.Symbol.{Symbol}
use Rattle.pio_expr.specs.declared.symbol.Symbol.TheVariants.{Define}
use Rattle.pio_expr.specs.declared.fault.ValueFault.{ValueFault}
use Rattle.pio_expr.specs.declared.fault.ValueKind.{ValueKind}
use Rattle.pio_expr.specs.declared.fault.ValueKind.TheVariants.{Cycle}
use Rattle.pio_expr.specs.declared.frame.StackFrame.{StackFrame}
use Rattle.pio_expr.specs.declared.frame.Named.{Named}
use Rattle.pio_expr.specs.declared.frame.Named.TheVariants as named
use Rattle.pio_expr.specs.declared.frame.Pause.{Pause}
use Rattle.pio_expr.specs.declared.frame.Pause.TheVariants.{Waits, Done}
use Rattle.pio_expr.specs.Values.{Scope, found, by_symbol, in_program, program_of, count_of, worked_out, IsValueFaultOf}

-- names are looked up in the program first: from the place of a symbol of the program, or where no symbol's expression is asked
abbrev pub is_local : Scope → Option ℕ → Bool
is_local scope (Some place) = in_program scope place
is_local scope None = true

-- the places whose values are known, the oldest first
abbrev pub Kept : Type 0
Kept = List (ℕ × ℤ)

-- the value of a place, if it is known
abbrev pub kept_at : Kept → ℕ → Option ℤ
kept_at kept place = lookup (nat_eq place) kept

-- what a name is to a frame: a number, or a define whose value is wanted first
pub data Look : Type 0 where
  number : ℤ → Look
  wanted : ℕ → List Item → Look

-- what a define is: its kept value, a cycle where it is under way, or wanted
abbrev pub look_by : Option ℤ → Bool → List ℕ → ℕ → List Item → Result Look ValueKind
look_by (Some value) under name place items = Ok (number value)
look_by None true name place items = Err (Cycle name)
look_by None false name place items = Ok (wanted place items)

-- what a name is, looked up from a frame
abbrev pub looked_up : Scope → Kept → (ℕ → Bool) → Bool → List ℕ → Result Look ValueKind
looked_up scope kept under local name = by_symbol number (λ place items. look_by (kept_at kept place) (under place) name place items) name (found scope local name)

-- the same of an item: one that is no name asks for nothing
abbrev pub looked_at : (List ℕ → Result Look ValueKind) → Item → Result Look ValueKind
looked_at look (item.Name name) = look name
looked_at look i = Ok (number (pos 0))

-- how the answer of the code is seen
abbrev pub look_of : Named → Look
look_of (named.Number n) = number n
look_of (named.Define place expr) = wanted place expr.now

-- the answer of the code is this one, unless memory ran out
abbrev pub Looks : Result Named ValueFault → Result Look ValueKind → Type 0
Looks (Err fault) look = IsValueFaultOf fault look
Looks (Ok named) look = look ≡ Ok (look_of named)

-- a name's value is what a frame uses for it, where it uses one
abbrev pub AgreesBy : Result Look ValueKind → Result ℤ ValueKind → Type 0
AgreesBy (Ok (number n)) value = value ≡ Ok n
AgreesBy (Ok (wanted place items)) value = Unit {0}
AgreesBy (Err fault) value = value ≡ Err fault

-- the same of all names
abbrev pub Agrees : (List ℕ → Result Look ValueKind) → (List ℕ → Result ℤ ValueKind) → Type 0
Agrees look named = (name : List ℕ) → AgreesBy (look name) (named name)

-- what a frame's run shows of its expression's value, for such values of names: the value, the fault, or what is left to do
abbrev pub Shows : (List ℕ → Result ℤ ValueKind) → StackFrame → Result Pause ValueFault → Result ℤ ValueKind → Type 0
Shows named frame (Ok (Done n)) value = value ≡ Ok n
Shows named frame (Ok (Waits place expr)) value = value ≡ worked_out named frame.rest.now frame.numbers.items
Shows named frame (Err fault) value = IsValueFaultOf fault value

-- a frame rests at a name that is this define
abbrev pub RestsAt : (List ℕ → Result Look ValueKind) → List Item → ℕ → List Item → Type 0
RestsAt look (item.Name name ∷ rest) place items = look name ≡ Ok (wanted place items)
RestsAt look _ place items = ⊥

-- a run that waits rests at such a name
abbrev pub WaitsAtName : (List ℕ → Result Look ValueKind) → StackFrame → Result Pause ValueFault → Type 0
WaitsAtName look frame (Ok (Waits place expr)) = RestsAt look frame.rest.now place expr.now
WaitsAtName look frame _ = Unit {0}

-- the symbol at a place, and its expression: no items, where it is no define
abbrev pub symbol_at : Scope → ℕ → Option Symbol
symbol_at scope place = option_map (λ s. s.1) (slice_get (scope.globals ++ program_of scope) place)

-- the expression of a symbol
abbrev pub items_by : Option Symbol → List Item
items_by (Some (Define items)) = items
items_by _ = []

-- the expression of the symbol at a place
unfoldable pub items_at : Scope → ℕ → List Item
items_at scope place = items_by (symbol_at scope place)

-- the value of a define by the kept ones
abbrev pub by_kept : List ℕ → Option ℤ → Result ℤ ValueKind
by_kept name (Some value) = Ok value
by_kept name None = Err (Cycle name)

-- the value of a name by the kept ones
abbrev pub kept_value : Scope → Kept → Bool → List ℕ → Result ℤ ValueKind
kept_value scope kept local name = by_symbol (λ n. n) (λ place items. by_kept name (kept_at kept place)) name (found scope local name)

-- each kept value is that of its define, by the values kept before it
pub record IsKeptAt (scope : Scope) (before : Kept) (place : ℕ) (value : ℤ) : Type 0 where
  pub within : place < count_of scope
  pub gives : worked_out (kept_value scope before (in_program scope place)) (items_at scope place) [] ≡ Ok value

-- this holds of each kept value
abbrev pub AreKept : Scope → Kept → Type 0
AreKept scope kept = (i : ℕ) (place : ℕ) (value : ℤ) → slice_get kept i ≡ Some (place, value) → IsKeptAt scope (take i kept) place value
