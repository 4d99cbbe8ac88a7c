-- A row that comes after all rows of a grid.
use Rattle.std.proofs.Common.{◌≡◌, ℕ, zero, suc, ◌+◌, ◌<◌, ◌≤◌, true, List, [], ◌∷◌, ◌++◌, length, set, refl, ap, ◌∙◌, subst, arith}
use Rattle.span_step.specs.declared.ages.Ages.{Ages}
use Rattle.span_step.specs.Contexts.{Context, is_placed}
use Rattle.span_bounds.specs.declared.entry.Entry.{Entry}
use Rattle.span_bounds.specs.declared.entry.Entry.TheVariants.{Absent, Present}
use Rattle.span_bounds.specs.declared.row.Row.{Row}
use Rattle.span_bounds.specs.Numbers.{number_of, context_at}
use Rattle.span_bounds.specs.Tables.{EachRow, rows_from, FollowedRows}
use Rattle.span_bounds.proofs.Placing.{number_of-context_at, context_at-number_of}
use Rattle.pin_matrix.specs.declared.assume.Follow.{Follow}

-- all rows come before this number
abbrev AllBelow : Follow → ℕ → List Row → Type 0
AllBelow far j rows = EachRow (λ r. number_of far r.context < j) rows

-- no row comes from this number on
nothing : (far : Follow) (j n : ℕ) (g : List Entry) → j ≤ n → AllBelow far j (rows_from far n g) → rows_from far n g ≡ []
nothing far j n [] l h = refl
nothing far j n (Absent ∷ g) l h = nothing far j (n + 1) g (omega arith) h
nothing far j n (Present a ∷ g) l h = absurd (omega (arith, number_of-context_at far n, h.0))

pushed : (far : Follow) (n : ℕ) (g : List Entry) (i j : ℕ) (a : Ages) → j ≡ n + i → i < length g → AllBelow far j (rows_from far n g)
    → rows_from far n (set g i (Present a)) ≡ rows_from far n g ++ record { context = context_at far j; ages = a } ∷ []
pushed far n [] i j a e l h = absurd (omega arith)
pushed far n (Absent ∷ g) zero j a e l h =
    let none : rows_from far (n + 1) g ≡ [] = nothing far j (n + 1) g (omega arith) h in
    let same : j ≡ n = omega arith in
    rw (same, none) refl
pushed far n (Absent ∷ g) (suc i) j a e l h = pushed far (n + 1) g i j a (omega arith) (omega arith) h
pushed far n (Present b ∷ g) zero j a e l h = absurd (omega (arith, number_of-context_at far n, h.0))
pushed far n (Present b ∷ g) (suc i) j a e l h =
    ap (λ (rs : List Row). record { context = context_at far n; ages = b } ∷ rs) (pushed far (n + 1) g i j a (omega arith) (omega arith) h.1)

-- the rows of a grid in which one more is written, after all others
pub pushed_row : (far : Follow) (g new : List Entry) (rows : List Row) (r : Row) (i : ℕ) → i ≡ number_of far r.context → is_placed far r.context.address r.context.x r.context.y ≡ true
    → i < length g → new ≡ set g i (Present r.ages) → rows_from far 0 g ≡ rows → AllBelow far (number_of far r.context) rows → rows_from far 0 new ≡ rows ++ r ∷ []
pushed_row far g new rows r i number placed near is same below =
    let all : AllBelow far i (rows_from far 0 g) = rw (number, same) below in
    let more : rows_from far 0 (set g i (Present r.ages)) ≡ rows_from far 0 g ++ record { context = context_at far i; ages = r.ages } ∷ [] =
    pushed far 0 g i i r.ages (omega arith) near all in
    let k : context_at far i ≡ r.context = ap (context_at far) number ∙ context_at-number_of far r.context placed in
    ap (rows_from far 0) is ∙ more ∙ ap (λ (c : Context). rows_from far 0 g ++ record { context = c; ages = r.ages } ∷ []) k
    ∙ ap (λ (rs : List Row). rs ++ r ∷ []) same

-- the same of a table
pub pushed_table : (d : Follow) (g new : List Entry) (t : FollowedRows) (r : Row) (i : ℕ) → i ≡ number_of d r.context → is_placed t.follow r.context.address r.context.x r.context.y ≡ true
    → i < length g → new ≡ set g i (Present r.ages) → ◌≡◌ {A = FollowedRows} (record { follow = d; rows = rows_from d 0 g }) t → AllBelow t.follow (number_of t.follow r.context) t.rows
    → ◌≡◌ {A = FollowedRows} (record { follow = d; rows = rows_from d 0 new }) (record { follow = t.follow; rows = t.rows ++ r ∷ [] })
pushed_table d g new t r i n p l w e b =
    subst (λ (s : FollowedRows). is_placed s.follow r.context.address r.context.x r.context.y ≡ true → AllBelow s.follow (number_of s.follow r.context) s.rows → ◌≡◌ {A = FollowedRows} (record { follow = d; rows = rows_from d 0 new }) (record { follow = s.follow; rows = s.rows ++ r ∷ [] }))
    e (λ q c. ap (λ (rs : List Row). record { follow = d; rows = rs }) (pushed_row d g new (rows_from d 0 g) r i n q l w refl c)) p b
