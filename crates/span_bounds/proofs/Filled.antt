-- The entries by which the rows are judged are a closed table, and every least closed table has the same first causes.
use Rattle.std.proofs.Common.{◌≡◌, ℕ, zero, suc, ◌+◌, ◌-◌, ◌^◌, ◌<◌, ◌≤◌, ◌&&◌, Bool, true, false, IsSome, List, [], ◌∷◌, length, refl, ap, ◌∙◌, arith}
use Rattle.std.proofs.lemmas.Bool.{both_ways}
use Rattle.pin_matrix.specs.Followed.{followed}
use Rattle.pin_matrix.specs.declared.setup.Setup.{Setup}
use Rattle.pin_matrix.specs.declared.span.Span.{Span}
use Rattle.span_step.specs.declared.ages.Ages.{Ages}
use Rattle.span_step.specs.declared.ages.Ages.TheVariants.{Empty, Between}
use Rattle.span_step.specs.declared.stepped.Next.{Next}
use Rattle.span_step.specs.Contexts.{IsInside, is_open}
use Rattle.span_step.specs.Laws.{AllUpTo, AreUpTo, ReachesAge, cap_of, first_cause, most_of}
use Rattle.span_step.specs.Steps.{context_steps}
use Rattle.span_step.proofs.Aging.{AllUpTo-context_steps}
use Rattle.span_step.proofs.Overdue.{overdue_alike, IsConfigured}
use Rattle.span_step.specs.Narrowing.{nexts_of}
use Rattle.span_bounds.specs.declared.entry.Entry.{Entry}
use Rattle.span_bounds.specs.declared.entry.Entry.TheVariants.{Absent, Present}
use Rattle.span_bounds.specs.declared.row.Row.{Row}
use Rattle.span_bounds.specs.Numbers.{number_of, context_at, contexts_of}
use Rattle.span_bounds.specs.Tables.{LiesAt, entry_at, rows_from, start_context, AllLieIn, IsTable, IsClosed, IsLeast}
use Rattle.span_bounds.specs.Edges.{at, nexts_at, spot, EachNext, AllLie, IsClosedAt}
use Rattle.span_bounds.specs.Sums.{open_at}
use Rattle.span_bounds.specs.Count.{EntryIn, LieBut}
use Rattle.span_bounds.specs.Take.{IsTaken}
use Rattle.span_bounds.specs.Answers.{filled, cause_by, cause_at}
use Rattle.span_bounds.proofs.Coming.{EachNext-both}
use Rattle.span_bounds.proofs.Joins.{beside}
use Rattle.span_bounds.proofs.Placing.{number_of-context_at}
use Rattle.span_bounds.proofs.Grids.{entry_at-rows_from, IsTable-rows_from}
use Rattle.span_bounds.proofs.Ends.{LeftAreBounded, ReachesAt, left_above, cap_fits, most_fits, row_at, in_lie, closed_at, each_row_at, starts}

-- the entries by which the rows are judged
pub filled_all : List Entry → List Entry → List Entry
filled_all [] xs = []
filled_all (l ∷ ls) [] = []
filled_all (l ∷ ls) (x ∷ xs) = filled l x ∷ filled_all ls xs

length-filled_all : (ls xs : List Entry) → length ls ≡ length xs → length (filled_all ls xs) ≡ length xs
unfolding filled_all
length-filled_all [] xs e = e
length-filled_all (l ∷ ls) [] e = refl
length-filled_all (l ∷ ls) (x ∷ xs) e = ap suc (length-filled_all ls xs (omega arith))

at-filled_all : (ls xs : List Entry) → length ls ≡ length xs → (i : ℕ) → at (filled_all ls xs) i ≡ filled (at ls i) (at xs i)
unfolding filled_all
at-filled_all [] [] e i = refl
at-filled_all [] (x ∷ xs) e i = absurd (omega arith)
at-filled_all (l ∷ ls) [] e i = absurd (omega arith)
at-filled_all (l ∷ ls) (x ∷ xs) e zero = refl
at-filled_all (l ∷ ls) (x ∷ xs) e (suc i) = at-filled_all ls xs (omega arith) i

full : (n : ℕ) (a : Ages) → n ≤ 2 ^ 32 - 1 → AreUpTo n a → IsInside a (Between 0 (2 ^ 32 - 1))
full n Empty l h = tt
full n (Between lo hi) l h = (omega arith, omega (arith, h.1))

each_up_to : (n : ℕ) (ns : List Next) → AllUpTo n ns → EachNext (λ m. AreUpTo n m.ages) ns
each_up_to n [] h = tt
each_up_to n (m ∷ ms) h = (h.0, each_up_to n ms h.1)

pub capped : (u : Setup) (sp : Span) (i : ℕ) (a : Ages) → EachNext (λ m. AreUpTo (cap_of u sp) m.ages) (nexts_at u sp i a)
unfolding nexts_at
capped u sp i a = each_up_to _ _ (AllUpTo-context_steps u sp _ a)

less_reached : (a : Ages) (n : ℕ) → ReachesAge (n + 1) a → ReachesAge n a
less_reached Empty n h = h
less_reached (Between lo hi) n h = omega arith

pub both_inside : (a b : Ages) → IsInside a b → IsInside b a → a ≡ b
both_inside Empty Empty h k = refl
both_inside Empty (Between lo hi) h k = absurd k
both_inside (Between lo hi) Empty h k = absurd h
both_inside (Between lo hi) (Between low high) h k =
    let p : lo ≡ low = omega arith in
    let q : hi ≡ high = omega arith in rw (p, q) refl

-- a grid that is closed has the rows of a closed table
pub closed_rows : (u : Setup) (sp : Span) (g : List Entry) → length g ≡ (contexts_of sp) → IsClosedAt u sp (at g) → IsClosed u sp (rows_from (followed sp) 0 g)
unfolding nexts_at
closed_rows u sp g e c = record {
  starts = rw (entry_at-rows_from (followed sp) g (number_of (followed sp) (start_context u sp))) c.starts;
  steps = each_row_at (followed sp) (λ r. AllLieIn (followed sp) (rows_from (followed sp) 0 g) (nexts_of (context_steps u sp r.context r.ages))) g e (λ i a m q. in_lie (followed sp) (rows_from (followed sp) 0 g) (at g) (entry_at-rows_from (followed sp) g) _ (c.steps i a m q));
}

module _ (u : Setup) (sp : Span) (l x : List Entry) (t : IsTaken u sp l x) (ready : IsConfigured u sp) where
  same_length : length l ≡ length x
  same_length = let a = t.left.size in let b = t.keeps.under.size in omega arith

  size : length (filled_all l x) ≡ (contexts_of sp)
  size = length-filled_all l x same_length ∙ t.keeps.under.size

  pub at_filled : (i : ℕ) → at (filled_all l x) i ≡ filled (at l i) (at x i)
  at_filled i = at-filled_all l x same_length i

  -- what is at most one above the bound lies at a row that is left, and at any other where it lies in the table
  lies : (a : Ages) (i : ℕ) → AreUpTo (cap_of u sp) a → (open_at (at l i) ≡ false → LiesAt a (at x i)) → LiesAt a (at (filled_all l x) i)
  lies a i h k = rw (at_filled i) (on (open_at (at l i)) refl) where
    on : (z : Bool) → open_at (at l i) ≡ z → LiesAt a (filled (at l i) (at x i))
    on true o = rw o (full _ a (cap_fits u sp) h)
    on false o = rw o (k o)

  all_lie : (i : ℕ) (a : Ages) → AllLie (followed sp) (at x) (nexts_at u sp i a) → AllLie (followed sp) (at (filled_all l x)) (nexts_at u sp i a)
  all_lie i a h = EachNext-both (λ n. AreUpTo (cap_of u sp) n.ages) (λ n. LiesAt n.ages (at x (spot (followed sp) n))) (λ n. LiesAt n.ages (at (filled_all l x) (spot (followed sp) n))) (λ n c k. lies n.ages (spot (followed sp) n) c (λ o. k)) _ (capped u sp i a) h

  not_passed : (n : Next) → (n.passes ≡ true → open_at (at l (spot (followed sp) n)) ≡ true) → open_at (at l (spot (followed sp) n)) ≡ false → n.passes ≡ false
  not_passed n h o = on n.passes refl where
    on : (z : Bool) → n.passes ≡ z → n.passes ≡ false
    on true p = absurd (both_ways _ o (h p))
    on false p = p

  all_left : (i : ℕ) (a b : Ages) → i < (contexts_of sp) → at l i ≡ Present a → open_at (at l i) ≡ true → AllLie (followed sp) (at (filled_all l x)) (nexts_at u sp i b)
  all_left i a b m q o =
      let there : at t.reach i ≡ Present a = (let e = t.left.left i m o in cc) in
      let opens : is_open a ≡ true = rw q at o in
      let fresh : LieBut (followed sp) true (at x) (nexts_at u sp i a) = rw opens at (t.keeps.fresh i a m there) in
      EachNext-both (λ n. AreUpTo (cap_of u sp) n.ages) (λ n. open_at (at l (spot (followed sp) n)) ≡ false → LiesAt n.ages (at x (spot (followed sp) n))) (λ n. LiesAt n.ages (at (filled_all l x) (spot (followed sp) n))) (λ n c k. lies n.ages (spot (followed sp) n) c k) _ (capped u sp i b)
      (EachNext-both (λ n. n.passes ≡ true → open_at (at l (spot (followed sp) n)) ≡ true) (λ n. (true && n.passes) ≡ false → LiesAt n.ages (at x (spot (followed sp) n))) (λ n. open_at (at l (spot (followed sp) n)) ≡ false → LiesAt n.ages (at x (spot (followed sp) n))) (λ n s k z. k (not_passed n s z)) _ (t.stays i b m o) (beside u sp (at x) i b a fresh))

  start_lies : LiesAt Empty (at (filled_all l x) (number_of (followed sp) (start_context u sp)))
  start_lies = lies Empty _ tt (λ o. starts u sp l x t ready)

  closed_steps : (i : ℕ) (a : Ages) → i < (contexts_of sp) → at (filled_all l x) i ≡ Present a → AllLie (followed sp) (at (filled_all l x)) (nexts_at u sp i a)
  closed_steps i a m q = on (open_at (at l i)) (at l i) refl refl where
    on : (z : Bool) (e : Entry) → open_at (at l i) ≡ z → at l i ≡ e → AllLie (followed sp) (at (filled_all l x)) (nexts_at u sp i a)
    on true Absent o p = absurd (both_ways _ refl (rw p at o))
    on true (Present b) o p = all_left i b a m p o
    on false e o p = all_lie i a (t.done i a m o (rw (at_filled i, o) at q))

  -- the entries by which the rows are judged are closed
  pub closed_filled : IsClosedAt u sp (at (filled_all l x))
  closed_filled = record { starts = start_lies; steps = closed_steps }

  pub closed_table : IsClosed u sp (rows_from (followed sp) 0 (filled_all l x))
  closed_table = closed_rows u sp (filled_all l x) size closed_filled

  pub table : IsTable (followed sp) (rows_from (followed sp) 0 (filled_all l x))
  table = IsTable-rows_from (followed sp) (filled_all l x) size

  module _ (rows : List Row) (least : IsLeast u sp rows) where
    closed : IsClosedAt u sp (entry_at (followed sp) rows)
    closed = closed_at u sp rows least.table least.closed

    row_lies : (i : ℕ) (b : Ages) → entry_at (followed sp) rows i ≡ Present b → LiesAt b (filled (at l i) (at x i))
    row_lies i b q =
        let h : LiesAt b (entry_at (followed sp) (rows_from (followed sp) 0 (filled_all l x)) (number_of (followed sp) (context_at (followed sp) i))) = row_at (followed sp) (λ r. LiesAt r.ages (entry_at (followed sp) (rows_from (followed sp) 0 (filled_all l x)) (number_of (followed sp) r.context))) 0 rows i b least.table (least.least _ table closed_table) q in
        rw (number_of-context_at (followed sp) i, entry_at-rows_from (followed sp) (filled_all l x) i, at_filled i) at h

    -- a row that was taken has the same ages in every least closed table
    same_entry : (i : ℕ) → i < (contexts_of sp) → open_at (at l i) ≡ false → entry_at (followed sp) rows i ≡ at x i
    same_entry i m o = on (entry_at (followed sp) rows i) (at x i) refl refl (t.keeps.under.least (entry_at (followed sp) rows) closed i m) where
      on : (e g : Entry) → entry_at (followed sp) rows i ≡ e → at x i ≡ g → EntryIn (at x i) (entry_at (followed sp) rows i) → entry_at (followed sp) rows i ≡ at x i
      on Absent Absent p q h = rw (p, q) refl
      on Absent (Present a) p q h = absurd (rw (p, q) at h)
      on (Present b) Absent p q h = absurd (rw (o, q) at (row_lies i b p))
      on (Present b) (Present a) p q h =
          let k : IsInside b a = rw (o, q) at (row_lies i b p) in
          let h' : IsInside a b = rw (p, q) at h in
          rw (p, q, both_inside b a k h') refl

    -- every least closed table has the same first causes
    pub same_first : LeftAreBounded sp l → (i : ℕ) → i < contexts_of sp → cause_by u sp i (entry_at (followed sp) rows i) ≡ cause_at u sp l x i
    same_first bounded i m = on (open_at (at l i)) refl where
      by : IsSome sp.max → (e : Entry) → ReachesAt (most_of u sp + 1) e → cause_by u sp i e ≡ first_cause (context_steps u sp (context_at (followed sp) i) (Between 0 (2 ^ 32 - 1))).causes
      by s Absent h = absurd h
      by s (Present b) h = overdue_alike u sp (context_at (followed sp) i) b (Between 0 (2 ^ 32 - 1)) ready s (less_reached b (most_of u sp) h) (most_fits u sp)

      on : (z : Bool) → open_at (at l i) ≡ z → cause_by u sp i (entry_at (followed sp) rows i) ≡ cause_at u sp l x i
      on true o = rw o (by (bounded i m o) (entry_at (followed sp) rows i) (left_above u sp l x t (entry_at (followed sp) rows) closed (most_of u sp + 1) (omega arith) i m o))
      on false o = rw (o, same_entry i m o) refl
