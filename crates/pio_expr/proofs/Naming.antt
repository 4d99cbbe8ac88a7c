-- The value of a name is that of its symbol.
use Rattle.std.proofs.Common.{◌≡◌, ℕ, ℤ, Result, suc, ◌-◌, pos, List, [], Some, None, Ok, Err, refl, ap, sym, ◌∙◌, arith, option_map, true}
use Rattle.pio_expr.specs.declared.expr.Item.{Item}
use Rattle.pio_expr.specs.declared.symbol.Symbol.TheVariants.{Define, Label}
use Rattle.pio_expr.specs.declared.fault.ValueKind.TheVariants.{Unknown}
use Rattle.pio_expr.specs.declared.fault.ValueKind.{ValueKind}
use Rattle.pio_expr.specs.declared.fault.ValueFault.{ValueFault}
use Rattle.pio_expr.specs.declared.fault.ValueFault.TheVariants as fault
use Rattle.pio_expr.specs.Values.{Scope, Found, found, symbol_of, name_value, count_of, value_at, value_of, value_of_name, Tells, IsValueFaultOf}
use Rattle.pio_expr.proofs.Finding.{found_is_there, place_within}
use Rattle.pio_expr.proofs.Keeping.{at_none, at_label, at_define}

-- a fault that tells the answer's
told_on : (given : ValueFault) (kind : ValueKind) (answer : Result ℤ ValueKind) → answer ≡ Err kind → Tells given kind → IsValueFaultOf given answer
told_on fault.Memory kind answer e t = tt
told_on (fault.Found told) kind answer e t = e ∙ ap Err (sym t)

pub name_unknown : (scope : Scope) (name : List ℕ) (given : ValueFault) → found scope true name ≡ None → Tells given (Unknown name) → IsValueFaultOf given (value_of_name scope name)
name_unknown scope name given e t = told_on given (Unknown name) (value_of_name scope name) (at_none scope [] true name (count_of scope) e) t

pub name_label : (scope : Scope) (name : List ℕ) (place words : ℕ) → found scope true name ≡ Some (place, Label words) → value_of_name scope name ≡ Ok (pos words)
name_label scope name place words e = at_label scope [] true name (count_of scope) place words e

pub name_define : (scope : Scope) (name : List ℕ) (place : ℕ) (items : List Item) → found scope true name ≡ Some (place, Define items) → value_of_name scope name ≡ value_at scope (Some place) items
name_define scope name place items e =
    let within = place_within scope place (Define items) (found_is_there scope true name place (Define items) e) in
    let one : count_of scope ≡ suc (count_of scope - 1) = omega (arith, within) in
    ap (λ n. name_value n scope [] true name) one ∙ at_define scope [] true name (count_of scope - 1) place items e refl

pub own_value_is : (scope : Scope) (name : List ℕ) (items : List Item) → symbol_of scope name ≡ Some (Define items) → value_of scope (Some name) items ≡ value_of_name scope name
own_value_is scope name items h = by (found scope true name) refl h where
  by : (f : Found) → found scope true name ≡ f → option_map (λ s. s.1) f ≡ Some (Define items) → value_of scope (Some name) items ≡ value_of_name scope name
  by None e h' = cc
  by (Some (place, s)) e h' =
      let it : found scope true name ≡ Some (place, Define items) = e ∙ (λ i. option_map (λ t. (place, t)) (h' i)) in
      ap (λ f. value_at scope (option_map (λ s. s.0) f) items) e ∙ sym (name_define scope name place items it)
