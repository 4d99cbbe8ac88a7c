-- The tests of a table say what a table's being closed and good says.
use Rattle.std.proofs.Common.{◌≡◌, ℕ, ◌+◌, if◌then◌else◌, ◌≤◌, nat_le, Bool, true, false, Option, Some, None, List, [], ◌∷◌, refl, arith}
use Rattle.std.proofs.lemmas.Bool.Decides.{nat_tests}
use Rattle.std.specs.List.{list_all}
use Rattle.std.proofs.lemmas.Bool.{and_parts}
use Rattle.pin_matrix.specs.Followed.{followed}
use Rattle.pin_matrix.specs.declared.assume.Follow.{Follow}
use Rattle.pin_matrix.specs.declared.setup.Setup.{Setup}
use Rattle.pin_matrix.specs.declared.span.Span.{Span}
use Rattle.span_step.specs.declared.ages.Ages.{Ages}
use Rattle.span_step.specs.declared.ages.Ages.TheVariants.{Empty, Between}
use Rattle.span_step.specs.declared.cause.Cause.{Cause}
use Rattle.span_step.specs.declared.stepped.Next.{Next}
use Rattle.span_step.specs.Contexts.{Context, IsInside, is_placed}
use Rattle.span_step.specs.Laws.{first_cause, AllPlaced}
use Rattle.span_step.specs.Narrowing.{nexts_of}
use Rattle.span_step.specs.Steps.{context_steps}
use Rattle.span_step.proofs.Placed.{AllPlaced-context_steps}
use Rattle.span_bounds.specs.declared.entry.Entry.{Entry}
use Rattle.span_bounds.specs.declared.entry.Entry.TheVariants.{Absent, Present}
use Rattle.span_bounds.specs.declared.row.Row.{Row}
use Rattle.span_bounds.specs.Numbers.{number_of}
use Rattle.span_bounds.specs.Tables.{entry_at, IsTableFrom, IsTable, LiesAt, start_context, AllLieIn, EachRow, IsClosed, IsGood}
use Rattle.span_verdict.specs.Tables.{is_inside, lies_at, lies_in, all_lie_in, is_none, is_right}

inside : (a b : Ages) → is_inside a b ≡ true → IsInside a b
inside Empty b e = tt
inside (Between lo hi) Empty e = absurd (bad e) where
  bad : false ≡ true → ⊥
  bad e = cc
inside (Between lo hi) (Between low high) e =
    let p : low ≤ lo = grind (arith, nat_tests) in
    let q : hi ≤ high = grind (arith, nat_tests) in (p, q)

is_inside-true : (a b : Ages) → IsInside a b → is_inside a b ≡ true
is_inside-true Empty b h = refl
is_inside-true (Between lo hi) Empty h = absurd h
is_inside-true (Between lo hi) (Between low high) h =
    let p : nat_le low lo ≡ true = grind (arith, nat_tests) in
    let q : nat_le hi high ≡ true = grind (arith, nat_tests) in rw (p, q) refl

pub lies : (a : Ages) (e : Entry) → lies_at a e ≡ true → LiesAt a e
lies a Absent e = absurd (bad e) where
  bad : false ≡ true → ⊥
  bad e = cc
lies a (Present b) e = inside a b e

pub lies_at-true : (a : Ages) (e : Entry) → LiesAt a e → lies_at a e ≡ true
lies_at-true a Absent h = absurd h
lies_at-true a (Present b) h = is_inside-true a b h

lies_of : (d : Follow) (rows : List Row) (k : Context) (a : Ages) → lies_in d rows k a ≡ true → LiesAt a (entry_at d rows (number_of d k))
lies_of d rows k a e = on (is_placed d k.address k.x k.y) (lies a _ e) where
  on : (z : Bool) → LiesAt a (if z then entry_at d rows (number_of d k) else Absent) → LiesAt a (entry_at d rows (number_of d k))
  on true h = h
  on false h = absurd h

pub lies_placed : (d : Follow) (rows : List Row) (k : Context) (a : Ages) → is_placed d k.address k.x k.y ≡ true → LiesAt a (entry_at d rows (number_of d k)) → lies_in d rows k a ≡ true
lies_placed d rows k a p h = rw p (lies_at-true a _ h)

all_lie : (d : Follow) (rows : List Row) (ns : List Next) → list_all (λ n. lies_in d rows n.context n.ages) ns ≡ true → AllLieIn d rows ns
all_lie d rows [] e = tt
all_lie d rows (n ∷ ns) e = let p = and_parts _ _ e in (lies_of d rows n.context n.ages p.0, all_lie d rows ns p.1)

list_all-lies : (d : Follow) (rows : List Row) (ns : List Next) → AllPlaced d ns → AllLieIn d rows ns → list_all (λ n. lies_in d rows n.context n.ages) ns ≡ true
list_all-lies d rows [] q h = refl
list_all-lies d rows (n ∷ ns) q h = rw (lies_placed d rows n.context n.ages q.0 h.0, list_all-lies d rows ns q.1 h.1) refl

none : (o : Option Cause) → is_none o ≡ true → o ≡ None
none None e = refl
none (Some cause) e = absurd (bad e) where
  bad : false ≡ true → ⊥
  bad e = cc

-- what can come next after a row
abbrev comes : Setup → Span → Row → List Next
comes u sp r = nexts_of (context_steps u sp r.context r.ages)

right : (u : Setup) (sp : Span) (rows : List Row) (r : Row) → is_right u sp rows r ≡ true → (first_cause (context_steps u sp r.context r.ages).causes ≡ None) × AllLieIn (followed sp) rows (comes u sp r)
unfolding is_right all_lie_in
right u sp rows r e = let p = and_parts _ _ e in (none _ p.0, all_lie (followed sp) rows _ p.1)

is_right-true : (u : Setup) (sp : Span) (rows : List Row) (r : Row) → is_placed (followed sp) r.context.address r.context.x r.context.y ≡ true → first_cause (context_steps u sp r.context r.ages).causes ≡ None → AllLieIn (followed sp) rows (comes u sp r) → is_right u sp rows r ≡ true
unfolding is_right all_lie_in
is_right-true u sp rows r p e h = rw (e, list_all-lies (followed sp) rows _ (AllPlaced-context_steps u sp r.context r.ages (and_parts _ _ p).0) h) refl

good : (u : Setup) (sp : Span) (rows rs : List Row) → list_all (is_right u sp rows) rs ≡ true → IsGood u sp rs
good u sp rows [] e = tt
good u sp rows (r ∷ rs) e = let p = and_parts _ _ e in ((right u sp rows r p.0).0, good u sp rows rs p.1)

steps : (u : Setup) (sp : Span) (rows rs : List Row) → list_all (is_right u sp rows) rs ≡ true → EachRow (λ r. AllLieIn (followed sp) rows (comes u sp r)) rs
steps u sp rows [] e = tt
steps u sp rows (r ∷ rs) e = let p = and_parts _ _ e in ((right u sp rows r p.0).1, steps u sp rows rs p.1)

all_right : (u : Setup) (sp : Span) (n : ℕ) (rows rs : List Row) → IsTableFrom (followed sp) n rs → EachRow (λ r. AllLieIn (followed sp) rows (comes u sp r)) rs → IsGood u sp rs → list_all (is_right u sp rows) rs ≡ true
all_right u sp n rows [] t h k = refl
all_right u sp n rows (r ∷ rs) t h k = rw (is_right-true u sp rows r t.0 k.0 h.0, all_right u sp (number_of (followed sp) r.context + 1) rows rs t.1.1 h.1 k.1) refl

-- the tests of the start and of the rows say that a table is closed and good
pub closed_and_good : (u : Setup) (sp : Span) (rows : List Row) → lies_in (followed sp) rows (start_context u sp) Empty ≡ true → list_all (is_right u sp rows) rows ≡ true → IsClosed u sp rows × IsGood u sp rows
closed_and_good u sp rows s e = (record { starts = lies_of (followed sp) rows (start_context u sp) Empty s; steps = steps u sp rows rows e }, good u sp rows rows e)

-- and the other way round
pub tests_pass : (u : Setup) (sp : Span) (rows : List Row) → IsTable (followed sp) rows → IsClosed u sp rows × IsGood u sp rows → list_all (is_right u sp rows) rows ≡ true
tests_pass u sp rows t h = all_right u sp 0 rows rows t h.0.steps h.1
