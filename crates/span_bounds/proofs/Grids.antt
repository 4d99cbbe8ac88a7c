-- The rows of a grid.
use Rattle.std.proofs.Common.{◌≡◌, ℕ, zero, suc, ◌+◌, ◌<◌, ◌≤◌, true, nat_lt, List, [], ◌∷◌, length, replicate, get_or, refl, ap, ◌∙◌, arith}
use Rattle.std.proofs.lemmas.Bool.{eq-eqb, ne_eqb}
use Rattle.std.proofs.lemmas.Bool.Decides.{nat_tests}
use Rattle.span_bounds.specs.declared.entry.Entry.{Entry}
use Rattle.span_bounds.specs.declared.entry.Entry.TheVariants.{Absent, Present}
use Rattle.span_bounds.specs.Numbers.{number_of, context_at, contexts}
use Rattle.span_bounds.specs.Tables.{entry_at, rows_from, IsTableFrom, IsTable}
use Rattle.span_bounds.proofs.Placing.{number_of-context_at, is_placed-context_at}
use Rattle.pin_matrix.specs.declared.assume.Follow.{Follow}

-- no row comes before the first
before : (far : Follow) (n : ℕ) (g : List Entry) (i : ℕ) → i < n → entry_at far (rows_from far n g) i ≡ Absent
before far n [] i l = refl
before far n (Absent ∷ g) i l = before far (n + 1) g i (omega arith)
before far n (Present a ∷ g) i l =
    rw (ne_eqb (number_of far (context_at far n)) i (λ e. omega (arith, number_of-context_at far n))) (before far (n + 1) g i (omega arith))

from : (far : Follow) (n : ℕ) (g : List Entry) (i : ℕ) → entry_at far (rows_from far n g) (n + i) ≡ get_or g i Absent
from far n [] i = refl
from far n (Absent ∷ g) zero = before far (n + 1) g (n + 0) (omega arith)
from far n (Absent ∷ g) (suc i) = ap (entry_at far (rows_from far (n + 1) g)) (shift n i) ∙ from far (n + 1) g i where
  shift : (n i : ℕ) → n + suc i ≡ (n + 1) + i
  shift n i = omega arith
from far n (Present a ∷ g) zero = rw (eq-eqb (number_of far (context_at far n)) (n + 0) (omega (arith, number_of-context_at far n))) refl
from far n (Present a ∷ g) (suc i) =
    rw (ne_eqb (number_of far (context_at far n)) (n + suc i) (λ e. omega (arith, number_of-context_at far n)))
    (ap (entry_at far (rows_from far (n + 1) g)) (shift n i) ∙ from far (n + 1) g i) where
      shift : (n i : ℕ) → n + suc i ≡ (n + 1) + i
      shift n i = omega arith

-- a table says of a number what its grid says
pub entry_at-rows_from : (far : Follow) (g : List Entry) (i : ℕ) → entry_at far (rows_from far 0 g) i ≡ get_or g i Absent
entry_at-rows_from far g i = let e : 0 + i ≡ i = omega arith in rw e at (from far 0 g i)

above : (k n : ℕ) → k ≤ n → nat_lt k (n + 1) ≡ true
above k n l = grind (arith, nat_tests)

table_from : (far : Follow) (k n : ℕ) (g : List Entry) → k ≤ n → n + length g ≤ contexts far → IsTableFrom far k (rows_from far n g)
table_from far k n [] l m = tt
table_from far k n (Absent ∷ g) l m = table_from far k (n + 1) g (omega arith) (omega arith)
table_from far k n (Present a ∷ g) l m =
    (is_placed-context_at far n (omega arith), rw (number_of-context_at far n) (above k n l, table_from far (n + 1) (n + 1) g (omega arith) (omega arith)))

-- the rows of a grid are a table
pub IsTable-rows_from : (far : Follow) (g : List Entry) → length g ≡ contexts far → IsTable far (rows_from far 0 g)
IsTable-rows_from far g e = table_from far 0 0 g (omega arith) (omega arith)

-- a grid without rows
pub no_rows : (far : Follow) (n k : ℕ) → rows_from far n (replicate k Absent) ≡ []
no_rows far n zero = refl
no_rows far n (suc k) = no_rows far (n + 1) k

-- the same at a name that attributes can have
pub looked_up : (far : Follow) (g : List Entry) (i : ℕ) → entry_at far (rows_from far 0 g) i ≡ get_or g i Absent
looked_up far g i = entry_at-rows_from far g i
