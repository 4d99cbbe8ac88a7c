-- What a returned fault tells; nothing where memory ran out.
use Rattle.std.specs.Prelude.{Option, Some, None}
use Rattle.pio_expr.specs.declared.fault.ExprFault.{ExprFault}
use Rattle.pio_expr.specs.declared.fault.ExprFault.TheVariants as expr_fault
use Rattle.pio_expr.specs.declared.fault.ExprRefusal.{ExprRefusal}
use Rattle.pio_expr.specs.declared.fault.ValueFault.{ValueFault}
use Rattle.pio_expr.specs.declared.fault.ValueFault.TheVariants as value_fault
use Rattle.pio_expr.specs.declared.fault.ValueKind.{ValueKind}

-- what is wrong with an expression, and at which token
abbrev pub expr_told : ExprFault → Option ExprRefusal
expr_told expr_fault.Memory = None
expr_told (expr_fault.At place kind) = Some (record { place = place; kind = kind })

-- why an expression has no value
abbrev pub value_told : ValueFault → Option ValueKind
value_told value_fault.Memory = None
value_told (value_fault.Found kind) = Some kind
