-- A table has no flaw exactly where its tests pass.
use Rattle.std.proofs.Common.{◌≡◌, Bool, true, false, cond, ◌&&◌, Option, Some, None, List, [], ◌∷◌, refl, sym, ◌∙◌}
use Rattle.std.specs.List.{list_all}
use Rattle.std.proofs.lemmas.Bool.{and_parts}
use Rattle.pin_matrix.specs.Followed.{followed}
use Rattle.pin_matrix.specs.declared.setup.Setup.{Setup}
use Rattle.pin_matrix.specs.declared.span.Span.{Span}
use Rattle.span_step.specs.declared.ages.Ages.TheVariants.{Empty}
use Rattle.span_step.specs.declared.cause.Cause.{Cause}
use Rattle.span_step.specs.Contexts.{Context, is_placed}
use Rattle.span_bounds.specs.declared.row.Row.{Row}
use Rattle.span_bounds.specs.Tables.{start_context, IsTable, IsClosed, IsGood}
use Rattle.span_verdict.specs.declared.table_flaw.Flaw.{Flaw}
use Rattle.span_verdict.specs.declared.table_flaw.Flaw.TheVariants.{Open}
use Rattle.span_verdict.specs.Flaws.{bad_at, row_flaw, rows_flaw, or_later}
use Rattle.span_verdict.specs.Tables.{lies_in, is_none, is_right}
use Rattle.span_verdict.proofs.Checks.{closed_and_good, tests_pass, lies_placed}

flaw_none : (b : Bool) (o : Option Cause) (k : Context) → cond b (bad_at k o) (Some (Open k)) ≡ None → (is_none o && b) ≡ true
flaw_none true None k e = refl
flaw_none true (Some c) k e = absurd (bad e) where
  bad : {A : Type 0} {x : A} → Some x ≡ None → ⊥
  bad e = cc
flaw_none false o k e = absurd (bad e) where
  bad : {A : Type 0} {x : A} → Some x ≡ None → ⊥
  bad e = cc

none_flaw : (b : Bool) (o : Option Cause) (k : Context) → (is_none o && b) ≡ true → cond b (bad_at k o) (Some (Open k)) ≡ None
none_flaw true None k e = refl
none_flaw true (Some c) k e = absurd (bad e) where
  bad : false ≡ true → ⊥
  bad e = cc
none_flaw false None k e = absurd (bad e) where
  bad : false ≡ true → ⊥
  bad e = cc
none_flaw false (Some c) k e = absurd (bad e) where
  bad : false ≡ true → ⊥
  bad e = cc

row_right : (u : Setup) (sp : Span) (rows : List Row) (r : Row) → row_flaw u sp rows r ≡ None → is_right u sp rows r ≡ true
unfolding row_flaw is_right
row_right u sp rows r e = flaw_none _ _ _ e

right_row : (u : Setup) (sp : Span) (rows : List Row) (r : Row) → is_right u sp rows r ≡ true → row_flaw u sp rows r ≡ None
unfolding row_flaw is_right
right_row u sp rows r e = none_flaw _ _ _ e

parts : (a b : Option Flaw) → or_later a b ≡ None → (a ≡ None) × (b ≡ None)
parts None b e = (refl, e)
parts (Some f) b e = absurd (bad e) where
  bad : {A : Type 0} {x : A} → Some x ≡ None → ⊥
  bad e = cc

rows_right : (u : Setup) (sp : Span) (rows rs : List Row) → rows_flaw u sp rows rs ≡ None → list_all (is_right u sp rows) rs ≡ true
rows_right u sp rows [] e = refl
rows_right u sp rows (r ∷ rs) e = let p = parts _ _ e in rw (row_right u sp rows r p.0, rows_right u sp rows rs p.1) refl

right_rows : (u : Setup) (sp : Span) (rows rs : List Row) → list_all (is_right u sp rows) rs ≡ true → rows_flaw u sp rows rs ≡ None
right_rows u sp rows [] e = refl
right_rows u sp rows (r ∷ rs) e = let p = and_parts _ _ e in rw (right_row u sp rows r p.0, right_rows u sp rows rs p.1) refl

-- with a row for the start, a table whose rows have no flaw is closed and good
pub flawless : (u : Setup) (sp : Span) (rows : List Row) → lies_in (followed sp) rows (start_context u sp) Empty ≡ true → rows_flaw u sp rows rows ≡ None → IsClosed u sp rows × IsGood u sp rows
flawless u sp rows start e = closed_and_good u sp rows start (rows_right u sp rows rows e)

-- and the other way round
pub no_flaw : (u : Setup) (sp : Span) (rows : List Row) → IsTable (followed sp) rows → IsClosed u sp rows × IsGood u sp rows → rows_flaw u sp rows rows ≡ None
no_flaw u sp rows t h = right_rows u sp rows rows (tests_pass u sp rows t h)

-- without one it isn't closed
pub unstarted : (u : Setup) (sp : Span) (rows : List Row) → is_placed (followed sp) (start_context u sp).address (start_context u sp).x (start_context u sp).y ≡ true → lies_in (followed sp) rows (start_context u sp) Empty ≡ false → IsClosed u sp rows × IsGood u sp rows → ⊥
unstarted u sp rows p e h = bad (sym (lies_placed (followed sp) rows (start_context u sp) Empty p h.0.starts) ∙ e) where
  bad : true ≡ false → ⊥
  bad e = cc
