-- There is one least closed table: two lie within each other, and a table is known by its entries.
use Rattle.std.proofs.Common.{◌≡◌, ◌≢◌, ℕ, ◌+◌, ◌<◌, ◌≤◌, ◌⊎◌, List, [], ◌∷◌, refl, sym, ap, ◌∙◌, subst, inl, inr, arith}
use Rattle.std.proofs.lemmas.Bool.{cases_lt, cases_eq, eq-eqb, ne_eqb}
use Rattle.pin_matrix.specs.Followed.{followed}
use Rattle.pin_matrix.specs.declared.setup.Setup.{Setup}
use Rattle.pin_matrix.specs.declared.span.Span.{Span}
use Rattle.span_step.specs.declared.ages.Ages.{Ages}
use Rattle.span_step.specs.Contexts.{Context, IsInside}
use Rattle.span_bounds.specs.declared.entry.Entry.{Entry}
use Rattle.span_bounds.specs.declared.entry.Entry.TheVariants.{Absent, Present}
use Rattle.span_bounds.specs.declared.row.Row.{Row}
use Rattle.span_bounds.specs.Numbers.{number_of, context_at}
use Rattle.span_bounds.specs.Tables.{LiesAt, entry_at, IsTableFrom, IsTable, LiesWithin, IsLeast}
use Rattle.span_bounds.proofs.Placing.{number_of-context_at, context_at-number_of}
use Rattle.span_bounds.proofs.Ends.{row_at}
use Rattle.span_bounds.proofs.Filled.{both_inside}
use Rattle.span_bounds.proofs.Firsts.{absent_before}
use Rattle.span_bounds.proofs.Least.{no_row, same_ages}
use Rattle.pin_matrix.specs.declared.assume.Follow.{Follow}

same_row : (k j : Context) (a b : Ages) → k ≡ j → a ≡ b → ◌≡◌ {A = Row} (record { context = k; ages = a }) (record { context = j; ages = b })
same_row k j a b p q = rw (p, q) refl

same_list : (x y : Row) (xs ys : List Row) → x ≡ y → xs ≡ ys → x ∷ xs ≡ y ∷ ys
same_list x y xs ys p q = rw (p, q) refl

-- the entry of the first row
first_entry : (far : Follow) (x : Row) (xs : List Row) → entry_at far (x ∷ xs) (number_of far x.context) ≡ Present x.ages
first_entry far x xs = rw (eq-eqb (number_of far x.context) (number_of far x.context) refl) refl

later_entry : (far : Follow) (x : Row) (xs : List Row) (i : ℕ) → number_of far x.context ≢ i → entry_at far (x ∷ xs) i ≡ entry_at far xs i
later_entry far x xs i d = rw (ne_eqb (number_of far x.context) i d) refl

-- no entry comes before the first row
early_entry : (far : Follow) (m : ℕ) (y : Row) (ys : List Row) (i : ℕ) → IsTableFrom far m (y ∷ ys) → i < number_of far y.context → entry_at far (y ∷ ys) i ≡ Absent
early_entry far m y ys i t l = later_entry far y ys i (λ e. omega arith) ∙ absent_before far (number_of far y.context + 1) i ys t.1.1 (omega arith)

same_rows : (far : Follow) (m n : ℕ) (xs ys : List Row) → IsTableFrom far m xs → IsTableFrom far n ys → ((i : ℕ) → entry_at far xs i ≡ entry_at far ys i) → xs ≡ ys
same_rows far m n [] [] s t e = refl
same_rows far m n [] (y ∷ ys) s t e = absurd (no_row (e (number_of far y.context) ∙ first_entry far y ys))
same_rows far m n (x ∷ xs) [] s t e = absurd (no_row (sym (e (number_of far x.context)) ∙ first_entry far x xs))
same_rows far m n (x ∷ xs) (y ∷ ys) s t e = same_list x y xs ys head (same_rows far (number_of far x.context + 1) (number_of far y.context + 1) xs ys s.1.1 t.1.1 tails) where
  number : number_of far x.context ≡ number_of far y.context
  number = on (cases_lt (number_of far x.context) (number_of far y.context)) (cases_lt (number_of far y.context) (number_of far x.context)) where
    on : (number_of far x.context < number_of far y.context) ⊎ (number_of far y.context ≤ number_of far x.context) → (number_of far y.context < number_of far x.context) ⊎ (number_of far x.context ≤ number_of far y.context) → number_of far x.context ≡ number_of far y.context
    on (inl l) o = absurd (no_row (sym (early_entry far n y ys (number_of far x.context) t l) ∙ sym (e (number_of far x.context)) ∙ first_entry far x xs))
    on (inr l) (inl k) = absurd (no_row (sym (early_entry far m x xs (number_of far y.context) s k) ∙ e (number_of far y.context) ∙ first_entry far y ys))
    on (inr l) (inr k) = omega arith

  context : x.context ≡ y.context
  context = sym (context_at-number_of far x.context s.0) ∙ ap (context_at far) number ∙ context_at-number_of far y.context t.0

  ages : x.ages ≡ y.ages
  ages = same_ages (sym (first_entry far x xs) ∙ e (number_of far x.context) ∙ subst (λ i. entry_at far (y ∷ ys) i ≡ Present y.ages) (sym number) (first_entry far y ys))

  head : x ≡ y
  head = same_row x.context y.context x.ages y.ages context ages

  tails : (i : ℕ) → entry_at far xs i ≡ entry_at far ys i
  tails i = on (cases_eq i (number_of far x.context)) where
    on : (i ≡ number_of far x.context) ⊎ (i ≢ number_of far x.context) → entry_at far xs i ≡ entry_at far ys i
    on (inl q) = absent_before far (number_of far x.context + 1) i xs s.1.1 (omega arith) ∙ sym (absent_before far (number_of far y.context + 1) i ys t.1.1 (omega (arith, number)))
    on (inr d) = sym (later_entry far x xs i (λ q. d (sym q))) ∙ e i ∙ later_entry far y ys i (λ q. d (sym q ∙ sym number))

lies_there : (far : Follow) (xs ys : List Row) → IsTable far xs → LiesWithin far xs ys → (i : ℕ) (a : Ages) → entry_at far xs i ≡ Present a → LiesAt a (entry_at far ys i)
lies_there far xs ys t w i a q =
    let h : LiesAt a (entry_at far ys (number_of far (context_at far i))) = row_at far (λ r. LiesAt r.ages (entry_at far ys (number_of far r.context))) 0 xs i a t w q in
    rw (number_of-context_at far i) at h

-- two tables that lie within each other are one
pub only_one : (u : Setup) (sp : Span) (xs ys : List Row) → IsLeast u sp xs → IsLeast u sp ys → xs ≡ ys
only_one u sp xs ys s t = same_rows (followed sp) 0 0 xs ys s.table t.table (λ i. on i (entry_at (followed sp) xs i) (entry_at (followed sp) ys i) refl refl) where
  there : (i : ℕ) (a : Ages) → entry_at (followed sp) xs i ≡ Present a → LiesAt a (entry_at (followed sp) ys i)
  there = lies_there (followed sp) xs ys s.table (s.least ys t.table t.closed)

  back : (i : ℕ) (a : Ages) → entry_at (followed sp) ys i ≡ Present a → LiesAt a (entry_at (followed sp) xs i)
  back = lies_there (followed sp) ys xs t.table (t.least xs s.table s.closed)

  on : (i : ℕ) (e g : Entry) → entry_at (followed sp) xs i ≡ e → entry_at (followed sp) ys i ≡ g → entry_at (followed sp) xs i ≡ entry_at (followed sp) ys i
  on i Absent Absent p q = p ∙ sym q
  on i Absent (Present b) p q = absurd (rw p at (back i b q))
  on i (Present a) Absent p q = absurd (rw q at (there i a p))
  on i (Present a) (Present b) p q =
      let h : IsInside a b = rw q at (there i a p) in
      let k : IsInside b a = rw p at (back i b q) in
      p ∙ ap Present (both_inside a b h k) ∙ sym q
