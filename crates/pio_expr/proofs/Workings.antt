-- One item of an expression, for values of names that agree with what a frame uses.
use Rattle.std.proofs.Common.{◌≡◌, ℕ, ℤ, List, [], ◌∷◌, Result, Ok, Err, length, arith, refl, ap}
use Rattle.answers.specs.Answers.{◌>>=◌}
use Rattle.pio_expr.specs.declared.expr.Item.{Item}
use Rattle.pio_expr.specs.declared.expr.Item.TheVariants as item
use Rattle.pio_expr.specs.declared.fault.ValueFault.{ValueFault}
use Rattle.pio_expr.specs.declared.fault.ValueFault.TheVariants.{Memory, Found}
use Rattle.pio_expr.specs.declared.fault.ValueKind.{ValueKind}
use Rattle.pio_expr.specs.Values.{number_by, left_by, first_of, worked_out, IsValueFaultOf}
use Rattle.pio_expr.specs.Frames.{Look, number, looked_at, Agrees}

pub item_agrees : (look : List ℕ → Result Look ValueKind) (given : List ℕ → Result ℤ ValueKind) (i : Item) (n : ℤ) (ns : List ℤ) → Agrees look given → looked_at look i ≡ Ok (number n) → number_by given i ns ≡ number_by (λ _. Ok n) i ns
item_agrees look given (item.Name name) n ns agrees e = rw e at (agrees name)
item_agrees look given (item.Number m) n ns agrees e = refl
item_agrees look given item.Add n ns agrees e = refl
item_agrees look given item.Subtract n ns agrees e = refl
item_agrees look given item.Multiply n ns agrees e = refl
item_agrees look given item.Divide n ns agrees e = refl
item_agrees look given item.Negate n ns agrees e = refl
item_agrees look given item.Reverse n ns agrees e = refl

pub item_fault : (look : List ℕ → Result Look ValueKind) (given : List ℕ → Result ℤ ValueKind) (i : Item) (fault : ValueKind) (ns : List ℤ) → Agrees look given → looked_at look i ≡ Err fault → number_by given i ns ≡ Err fault
item_fault look given (item.Name name) fault ns agrees e = rw e at (agrees name)
item_fault look given (item.Number m) fault ns agrees e = cc
item_fault look given item.Add fault ns agrees e = cc
item_fault look given item.Subtract fault ns agrees e = cc
item_fault look given item.Multiply fault ns agrees e = cc
item_fault look given item.Divide fault ns agrees e = cc
item_fault look given item.Negate fault ns agrees e = cc
item_fault look given item.Reverse fault ns agrees e = cc

-- an item that gives a number, and one that gives a fault
pub goes_on : (given : List ℕ → Result ℤ ValueKind) (i : Item) (rest : List Item) (ns : List ℤ) (m : ℤ) → number_by given i ns ≡ Ok m → worked_out given (i ∷ rest) ns ≡ worked_out given rest (m ∷ left_by i ns)
unfolding worked_out
goes_on given i rest ns m e = ap (λ r. r >>= (λ n. worked_out given rest (n ∷ left_by i ns))) e

pub ends_in : (given : List ℕ → Result ℤ ValueKind) (i : Item) (rest : List Item) (ns : List ℤ) (fault : ValueKind) → number_by given i ns ≡ Err fault → worked_out given (i ∷ rest) ns ≡ Err fault
unfolding worked_out
ends_in given i rest ns fault e = ap (λ r. r >>= (λ n. worked_out given rest (n ∷ left_by i ns))) e

pub at_end : (given : List ℕ → Result ℤ ValueKind) (ns : List ℤ) → worked_out given [] ns ≡ Ok (first_of ns)
unfolding worked_out
at_end given ns = refl

-- a fault goes on to the whole
pub fault_on : {T U : Type 0} (fault : ValueFault) (part : Result T ValueKind) (whole : Result U ValueKind) → ((kind : ValueKind) → part ≡ Err kind → whole ≡ Err kind) → IsValueFaultOf fault part → IsValueFaultOf fault whole
fault_on Memory part whole on h = tt
fault_on (Found kind) part whole on h = on kind h

pub none_left : (items : List Item) → length items ≡ 0 → items ≡ []
none_left [] h = refl
none_left (i ∷ items) h = absurd (omega (arith, h))
