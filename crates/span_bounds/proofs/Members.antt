-- An entry of a table is that of a row.
use Rattle.std.proofs.Common.{◌≡◌, suc, true, List, [], ◌∷◌, refl, subst, arith}
use Rattle.std.specs.List.{Contains}
use Rattle.span_step.specs.declared.ages.Ages.{Ages}
use Rattle.span_step.specs.Contexts.{Context, is_placed}
use Rattle.span_bounds.specs.declared.entry.Entry.TheVariants.{Present}
use Rattle.span_bounds.specs.declared.row.Row.{Row}
use Rattle.span_bounds.specs.Numbers.{number_of}
use Rattle.span_bounds.specs.Tables.{IsTable, EachRow, entry_at}
use Rattle.span_bounds.proofs.Ends.{row_at}
use Rattle.span_bounds.proofs.Placing.{context_at-number_of}
use Rattle.pin_matrix.specs.declared.assume.Follow.{Follow}

each_member : (P : Row → Type 0) (rows : List Row) → ((r : Row) → Contains rows r → P r) → EachRow P rows
each_member P [] h = tt
each_member P (r ∷ rows) h = (h r (0, omega arith, refl), each_member P rows (λ s c. h s (suc c.0, omega arith, c.2)))

pub member : (far : Follow) (rows : List Row) (k : Context) (a : Ages) → IsTable far rows → is_placed far k.address k.x k.y ≡ true → entry_at far rows (number_of far k) ≡ Present a → Contains rows (record { context = k; ages = a })
member far rows k a t p e =
    subst (λ c. Contains rows (record { context = c; ages = a })) (context_at-number_of far k p)
    (row_at far (λ r. Contains rows r) 0 rows (number_of far k) a t (each_member (λ r. Contains rows r) rows (λ r c. c)) e)
