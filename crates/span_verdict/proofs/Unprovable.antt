-- A context that is bad in each closed table leaves none that is good.
use Rattle.std.proofs.Common.{◌≡◌, ℕ, zero, suc, ◌+◌, Bool, true, false, Option, Some, None, List, [], ◌∷◌, refl, sym, ap, subst, arith}
use Rattle.std.specs.List.{Contains}
use Rattle.std.proofs.lemmas.Option.{same_Some}
use Rattle.pin_matrix.specs.Followed.{followed}
use Rattle.pin_matrix.specs.declared.assume.Follow.{Follow}
use Rattle.pin_matrix.specs.declared.setup.Setup.{Setup}
use Rattle.pin_matrix.specs.declared.span.Span.{Span}
use Rattle.span_step.specs.declared.ages.Ages.{Ages}
use Rattle.span_step.specs.declared.cause.Cause.{Cause}
use Rattle.span_step.specs.declared.cause.Cause.TheVariants.{U1, U2, U3, U4, U6}
use Rattle.span_step.specs.declared.cause.Causes.{Causes}
use Rattle.span_step.specs.Contexts.{Context, is_placed}
use Rattle.span_step.specs.Laws.{first_cause}
use Rattle.span_step.specs.Steps.{context_steps}
use Rattle.span_bounds.specs.declared.entry.Entry.TheVariants.{Present}
use Rattle.span_bounds.specs.declared.row.Row.{Row}
use Rattle.span_bounds.specs.Numbers.{number_of}
use Rattle.span_bounds.specs.Tables.{entry_at, EachRow, IsTable, IsTableFrom, IsProvable, first_bad}
use Rattle.span_bounds.specs.Answers.{HasCause, IsFirstBad}

-- what is said of each row is said of one of them
each_at : (P : Row → Type 0) (rows : List Row) (r : Row) → EachRow P rows → Contains rows r → P r
each_at P [] r e c = absurd (omega arith)
each_at P (s ∷ rows) r e (zero, l, q) = subst P q e.0
each_at P (s ∷ rows) r e (suc k, l, q) = each_at P rows r e.1 (k, omega arith, q)

some_none : {A : Type 0} {x : A} → Some x ≡ None → ⊥
some_none e = cc

-- a bad row has a first cause
has_first : (k : Cause) (c : Causes) → HasCause k c → first_cause c ≡ None → ⊥
has_first U1 c h f = some_none (rw h at f)
has_first U2 c h f = on c.u1 refl where
  on : (a : Bool) → c.u1 ≡ a → ⊥
  on true p = some_none (rw p at f)
  on false p = some_none (rw (p, h) at f)
has_first U3 c h f = on c.u1 c.u2 refl refl where
  on : (a b : Bool) → c.u1 ≡ a → c.u2 ≡ b → ⊥
  on true b p q = some_none (rw p at f)
  on false true p q = some_none (rw (p, q) at f)
  on false false p q = some_none (rw (p, q, h) at f)
has_first U4 c h f = on c.u1 c.u2 c.u3 refl refl refl where
  on : (a b d : Bool) → c.u1 ≡ a → c.u2 ≡ b → c.u3 ≡ d → ⊥
  on true b d p q r = some_none (rw p at f)
  on false true d p q r = some_none (rw (p, q) at f)
  on false false true p q r = some_none (rw (p, q, r) at f)
  on false false false p q r = some_none (rw (p, q, r, h) at f)
has_first U6 c h f = on c.u1 c.u2 c.u3 c.u4 refl refl refl refl where
  on : (a b d e : Bool) → c.u1 ≡ a → c.u2 ≡ b → c.u3 ≡ d → c.u4 ≡ e → ⊥
  on true b d e p q r s = some_none (rw p at f)
  on false true d e p q r s = some_none (rw (p, q) at f)
  on false false true e p q r s = some_none (rw (p, q, r) at f)
  on false false false true p q r s = some_none (rw (p, q, r, s) at f)
  on false false false false p q r s = some_none (rw (p, q, r, s, h) at f)

first_of : (p q : Context × Cause) → Some p ≡ Some q → p.0 ≡ q.0
first_of p q e = ap (λ r. r.0) (same_Some p q e)

-- the first bad row is in range
placed : (u : Setup) (sp : Span) (n : ℕ) (rows : List Row) (k : Context) (cause : Cause) → IsTableFrom (followed sp) n rows → first_bad u sp rows ≡ Some (k, cause) → is_placed (followed sp) k.address k.x k.y ≡ true
placed u sp n [] k cause t e = absurd (some_none (sym e))
placed u sp n (r ∷ rows) k cause t e = on (first_cause (context_steps u sp r.context r.ages).causes) refl (λ q. placed u sp (number_of (followed sp) r.context + 1) rows k cause t.1.1 q) where
  on : (o : Option Cause) → first_cause (context_steps u sp r.context r.ages).causes ≡ o → (first_bad u sp rows ≡ Some (k, cause) → is_placed (followed sp) k.address k.x k.y ≡ true) → is_placed (followed sp) k.address k.x k.y ≡ true
  on (Some c) q later = subst (λ j. is_placed (followed sp) j.address j.x j.y ≡ true) (first_of _ _ (rw q at e)) t.0
  on None q later = later (rw q at e)

-- what a law of tables says
abbrev pub EntriesAreRows : Type 0
EntriesAreRows = (d : Follow) (rows : List Row) (k : Context) (a : Ages) → IsTable d rows → is_placed d k.address k.x k.y ≡ true → entry_at d rows (number_of d k) ≡ Present a → Contains rows (record { context = k; ages = a })

-- a first bad context leaves no closed table that is good
pub unprovable : EntriesAreRows → (u : Setup) (sp : Span) (k : Context) (cause : Cause) → IsFirstBad u sp k cause → IsProvable u sp → ⊥
unprovable law u sp k cause f p =
    let bad = f.everywhere.bad p.rows p.table p.closed in
    let there = placed u sp 0 f.rows k cause f.least.table f.first in
    has_first cause _ bad.1.1
    (each_at (λ r. first_cause (context_steps u sp r.context r.ages).causes ≡ None) p.rows (record { context = k; ages = bad.0 }) p.good (law (followed sp) p.rows k bad.0 p.table there bad.1.0))
