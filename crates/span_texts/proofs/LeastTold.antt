-- The ages of a least closed table are in range: with those out of range cut off, a closed table is closed.
use Rattle.std.proofs.Common.{◌≡◌, ℕ, ◌+◌, ◌<◌, ◌≤◌, ◌==◌, nat_le, min, cond, Bool, true, false, List, [], ◌∷◌, map, refl, sym, ap, subst, ◌∙◌, arith}
use Rattle.std.proofs.Math.Nat.{le-min}
use Rattle.std.proofs.lemmas.Bool.{eq-eqb}
use Rattle.std.proofs.lemmas.Bool.Decides.{nat_tests}
use Rattle.pin_matrix.specs.Followed.{followed}
use Rattle.pin_matrix.specs.declared.assume.Follow.{Follow}
use Rattle.pin_matrix.specs.declared.setup.Setup.{Setup}
use Rattle.pin_matrix.specs.declared.span.Span.{Span}
use Rattle.span_step.specs.declared.ages.Ages.{Ages}
use Rattle.span_step.specs.declared.ages.Ages.TheVariants.{Empty, Between}
use Rattle.span_step.specs.declared.stepped.Next.{Next}
use Rattle.span_step.specs.Contexts.{Context, IsInside}
use Rattle.span_step.specs.Laws.{AreAlike, GoesLike, AreInside, AreUpTo, AllUpTo, IsNarrower, most_of}
use Rattle.span_step.specs.Narrowing.{nexts_of}
use Rattle.span_step.specs.Steps.{context_steps}
use Rattle.span_step.proofs.Periods.{most_small}
use Rattle.span_step.proofs.Wider.{inside_trans}
use Rattle.span_bounds.specs.declared.entry.Entry.{Entry}
use Rattle.span_bounds.specs.declared.entry.Entry.TheVariants.{Absent, Present}
use Rattle.span_bounds.specs.declared.row.Row.{Row}
use Rattle.span_bounds.specs.Numbers.{number_of}
use Rattle.span_bounds.specs.Tables.{entry_at, LiesAt, AllLieIn, EachRow, IsTableFrom, IsClosed, IsLeast, start_context}
use Rattle.span_texts.specs.Told.{IsAgeRange, HaveAgeRanges}
use Rattle.span_texts.proofs.Rights.{IsRight, AllRight, step_right}

-- ages of which those out of range are cut off
abbrev fixed : ℕ → Ages → Ages
fixed m Empty = Empty
fixed m (Between lo hi) = cond (nat_le lo (min hi m)) (Between lo (min hi m)) Empty

abbrev fixed_row : ℕ → Row → Row
fixed_row m r = record { context = r.context; ages = fixed m r.ages }

abbrev fixed_entry : ℕ → Entry → Entry
fixed_entry m Absent = Absent
fixed_entry m (Present a) = Present (fixed m a)

fixed_right_by : (b : Bool) (lo hi : ℕ) → nat_le lo hi ≡ b → IsRight (cond b (Between lo hi) Empty)
fixed_right_by true lo hi e = grind (arith, nat_tests)
fixed_right_by false lo hi e = tt

fixed_right : (m : ℕ) (a : Ages) → IsRight (fixed m a)
fixed_right m Empty = tt
fixed_right m (Between lo hi) = fixed_right_by (nat_le lo (min hi m)) lo (min hi m) refl

fixed_inside_by : (b : Bool) (lo hi m : ℕ) → IsInside (cond b (Between lo (min hi m)) Empty) (Between lo hi)
fixed_inside_by true lo hi m = (omega arith, omega arith)
fixed_inside_by false lo hi m = tt

fixed_inside : (m : ℕ) (a : Ages) → IsInside (fixed m a) a
fixed_inside m Empty = tt
fixed_inside m (Between lo hi) = fixed_inside_by (nat_le lo (min hi m)) lo hi m

-- ages in range that lie inside ages lie inside what is left of them
within_fixed : (m : ℕ) (a b : Ages) → IsRight a → AreUpTo m a → IsInside a b → IsInside a (fixed m b)
within_fixed m Empty b h k i = tt
within_fixed m (Between l g) Empty h k i = i
within_fixed m (Between l g) (Between lo hi) h k i =
    let low : lo ≤ l = i.0 in
    let high : g ≤ hi = i.1 in
    let order : l ≤ g = h in
    let most : g ≤ m = k.1 in
    let e : nat_le lo (min hi m) ≡ true = test lo l g hi m low high order most in
    rw e (low, le-min high most) where
      test : (lo l g hi m : ℕ) → lo ≤ l → g ≤ hi → l ≤ g → g ≤ m → nat_le lo (min hi m) ≡ true
      test lo l g hi m p q r s = let t : lo ≤ min hi m = omega arith in grind (arith, nat_tests)

-- ages inside what is left of them are in range
told_by : (b : Bool) (m lo hi : ℕ) → nat_le lo (min hi m) ≡ b → m ≤ 16777216 → IsInside (Between lo hi) (cond b (Between lo (min hi m)) Empty) → IsAgeRange (Between lo hi)
told_by true m lo hi e l i =
    let p : lo ≤ min hi m = grind (arith, nat_tests) in
    let q : hi ≤ min hi m = i.1 in
    (omega (arith, p), omega (arith, q, l))
told_by false m lo hi e l i = absurd i

told : (m : ℕ) (a : Ages) → m ≤ 16777216 → IsInside a (fixed m a) → IsAgeRange a
told m Empty l i = tt
told m (Between lo hi) l i = told_by (nat_le lo (min hi m)) m lo hi refl l i

choice_entry : (b : Bool) (m : ℕ) (x : Ages) (y : Entry) → cond b (Present (fixed m x)) (fixed_entry m y) ≡ fixed_entry m (cond b (Present x) y)
choice_entry true m x y = refl
choice_entry false m x y = refl

entry_at-fixed : (d : Follow) (m : ℕ) (rows : List Row) (i : ℕ) → entry_at d (map (fixed_row m) rows) i ≡ fixed_entry m (entry_at d rows i)
entry_at-fixed d m [] i = refl
entry_at-fixed d m (r ∷ rows) i =
    rw (entry_at-fixed d m rows i) (choice_entry (number_of d r.context == i) m r.ages (entry_at d rows i))

table_fixed : (d : Follow) (m n : ℕ) (rows : List Row) → IsTableFrom d n rows → IsTableFrom d n (map (fixed_row m) rows)
table_fixed d m n [] h = tt
table_fixed d m n (r ∷ rows) h = (h.0, (h.1.0, table_fixed d m (number_of d r.context + 1) rows h.1.1))

empty_fixed : (m : ℕ) (e : Entry) → LiesAt Empty e → LiesAt Empty (fixed_entry m e)
empty_fixed m Absent h = h
empty_fixed m (Present a) h = tt

lies_fixed : (m : ℕ) (a b : Ages) (e : Entry) → IsRight a → AreUpTo m a → IsInside a b → LiesAt b e → LiesAt a (fixed_entry m e)
lies_fixed m a b Absent h k i l = l
lies_fixed m a b (Present c) h k i l = within_fixed m a c h k (inside_trans a b c i l)

nexts_fixed : (d : Follow) (m : ℕ) (rows : List Row) (ns os : List Next) → AreAlike (GoesLike AreInside) ns os → AllRight ns → AllUpTo m ns → AllLieIn d rows os → AllLieIn d (map (fixed_row m) rows) ns
nexts_fixed d m rows [] os h r c l = tt
nexts_fixed d m rows (n ∷ ns) [] h r c l = absurd h
nexts_fixed d m rows (n ∷ ns) (o ∷ os) h r c l =
    let at : LiesAt o.ages (entry_at d rows (number_of d n.context)) = subst (λ (k : Context). LiesAt o.ages (entry_at d rows (number_of d k))) (sym h.0.context) l.0 in
    let lies : LiesAt n.ages (fixed_entry m (entry_at d rows (number_of d n.context))) = lies_fixed m n.ages o.ages (entry_at d rows (number_of d n.context)) r.0 c.0 h.0.ages at in
    (subst (LiesAt n.ages) (sym (entry_at-fixed d m rows (number_of d n.context))) lies, nexts_fixed d m rows ns os h.1 r.1 c.1 l.1)

-- what laws of a step say
abbrev pub IsMonotone : Type 0
IsMonotone = (u : Setup) (sp : Span) (k : Context) (a b : Ages) → IsInside a b → IsNarrower (context_steps u sp k a) (context_steps u sp k b)

abbrev pub IsCapped : Type 0
IsCapped = (u : Setup) (sp : Span) (k : Context) (a : Ages) → AllUpTo (most_of u sp + 1) (nexts_of (context_steps u sp k a))

module _ (monotone : IsMonotone) (capped : IsCapped) (u : Setup) (sp : Span) where
  abbrev most : ℕ
  most = most_of u sp + 1

  abbrev d : Follow
  d = followed sp

  abbrev comes : Row → List Next
  comes r = nexts_of (context_steps u sp r.context r.ages)

  steps_fixed : (rows rs : List Row) → EachRow (λ r. AllLieIn d rows (comes r)) rs → EachRow (λ r. AllLieIn d (map (fixed_row most) rows) (comes r)) (map (fixed_row most) rs)
  steps_fixed rows [] h = tt
  steps_fixed rows (r ∷ rs) h = (
    nexts_fixed d most rows (nexts_of (context_steps u sp r.context (fixed most r.ages))) (comes r)
        (monotone u sp r.context (fixed most r.ages) r.ages (fixed_inside most r.ages)).nexts
        (step_right u sp r.context (fixed most r.ages) (fixed_right most r.ages))
        (capped u sp r.context (fixed most r.ages)) h.0,
    steps_fixed rows rs h.1,
  )

  closed_fixed : (rows : List Row) → IsClosed u sp rows → IsClosed u sp (map (fixed_row most) rows)
  closed_fixed rows h = record {
    starts = subst (LiesAt Empty) (sym (entry_at-fixed d most rows (number_of d (start_context u sp)))) (empty_fixed most (entry_at d rows (number_of d (start_context u sp))) h.starts);
    steps = steps_fixed rows rows h.steps;
  }

  told_rows : (all rs : List Row) → most ≤ 16777216 → EachRow (λ r. LiesAt r.ages (entry_at d (map (fixed_row most) all) (number_of d r.context))) rs
      → EachRow (λ r. entry_at d all (number_of d r.context) ≡ Present r.ages) rs → HaveAgeRanges rs
  told_rows all [] l h k = tt
  told_rows all (r ∷ rs) l h k =
      let e : entry_at d (map (fixed_row most) all) (number_of d r.context) ≡ Present (fixed most r.ages) = entry_at-fixed d most all (number_of d r.context) ∙ ap (fixed_entry most) k.0 in
      (told most r.ages l (subst (LiesAt r.ages) e h.0), told_rows all rs l h.1 k.1)

other_number : (n m : ℕ) → n < m → (n == m) ≡ false
other_number n m l = grind (arith, nat_tests)

each_map : (P Q : Row → Type 0) → ((r : Row) → P r → Q r) → (rs : List Row) → EachRow P rs → EachRow Q rs
each_map P Q f [] h = tt
each_map P Q f (r ∷ rs) h = (f r h.0, each_map P Q f rs h.1)

-- all rows of a table from a number on come after it
each_above : (d : Follow) (n : ℕ) (rs : List Row) → IsTableFrom d n rs → EachRow (λ r. n < number_of d r.context + 1) rs
each_above d n [] h = tt
each_above d n (r ∷ rs) h =
    let p : n < number_of d r.context + 1 = (let q = h.1.0 in grind (arith, nat_tests)) in
    (p, each_map (λ s. number_of d r.context + 1 < number_of d s.context + 1) (λ s. n < number_of d s.context + 1) (λ s q. omega (arith, p, q)) rs (each_above d (number_of d r.context + 1) rs h.1.1))

-- each row is what a table says of its context
own_entries : (d : Follow) (n : ℕ) (rs : List Row) → IsTableFrom d n rs → EachRow (λ r. entry_at d rs (number_of d r.context) ≡ Present r.ages) rs
own_entries d n [] h = tt
own_entries d n (r ∷ rs) h =
    let later = each_above d (number_of d r.context + 1) rs h.1.1 in
    let own = own_entries d (number_of d r.context + 1) rs h.1.1 in
    (rw (eq-eqb (number_of d r.context) (number_of d r.context) refl) refl, both rs r rs later own) where
      both : (all : List Row) (r : Row) (ss : List Row) → EachRow (λ s. number_of d r.context + 1 < number_of d s.context + 1) ss → EachRow (λ s. entry_at d all (number_of d s.context) ≡ Present s.ages) ss
          → EachRow (λ s. entry_at d (r ∷ all) (number_of d s.context) ≡ Present s.ages) ss
      both all r [] h k = tt
      both all r (s ∷ ss) h k = (rw (other_number (number_of d r.context) (number_of d s.context) (omega (arith, h.0))) k.0, both all r ss h.1 k.1)

most_fits : (u : Setup) (sp : Span) → most_of u sp + 1 ≤ 16777216
most_fits u sp = omega (arith, most_small u sp)

-- the ages of a least closed table can be written
pub least_told : IsMonotone → IsCapped → (u : Setup) (sp : Span) (rows : List Row) → IsLeast u sp rows → HaveAgeRanges rows
least_told monotone capped u sp rows h =
    let most = most_of u sp + 1 in
    told_rows monotone capped u sp rows rows (most_fits u sp)
    (h.least (map (fixed_row most) rows) (table_fixed (followed sp) most 0 rows h.table) (closed_fixed monotone capped u sp rows h.closed))
    (own_entries (followed sp) 0 rows h.table)
