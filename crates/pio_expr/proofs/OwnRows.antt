-- Rows of whose own an expression is, worked by hand: the globals have `a`, worth 1, and `b`, a label; the program has its own `a`,
-- worth 2.
use Rattle.std.proofs.Common.{◌≡◌, ℕ, List, [], ◌∷◌, Some, None, refl}
use Rattle.std.specs.Prelude.{codes, pos}
use Rattle.pio_expr.specs.declared.expr.Item.TheVariants.{Number}
use Rattle.pio_expr.specs.declared.symbol.Symbol.TheVariants.{Define, Label}
use Rattle.pio_expr.specs.Values.{Scope, IsOwnTo, found_in}

abbrev globals_alone : Scope
globals_alone = record { globals = (codes "a", Define (Number (pos 1) ∷ [])) ∷ (codes "b", Label 5) ∷ []; program = None }

abbrev in_a_program : Scope
in_a_program = record { globals = globals_alone.globals; program = Some ((codes "a", Define (Number (pos 2) ∷ [])) ∷ []) }

-- `1` is own to `a`
own_row : IsOwnTo globals_alone (Some (codes "a")) (Number (pos 1) ∷ [])
unfolding found_in
own_row = refl

-- in the program `2` is, and `1` no more
program_row : IsOwnTo in_a_program (Some (codes "a")) (Number (pos 2) ∷ [])
unfolding found_in
program_row = refl

hidden_row : IsOwnTo in_a_program (Some (codes "a")) (Number (pos 1) ∷ []) → ⊥
unfolding found_in
hidden_row own = cc

-- no expression is own to a label, or to a name that is no symbol
label_row : IsOwnTo globals_alone (Some (codes "b")) (Number (pos 5) ∷ []) → ⊥
unfolding found_in
label_row own = cc

unknown_row : IsOwnTo globals_alone (Some (codes "c")) [] → ⊥
unfolding found_in
unknown_row own = cc

-- any expression is own to none
none_row : IsOwnTo in_a_program None (Number (pos 7) ∷ [])
none_row = tt
