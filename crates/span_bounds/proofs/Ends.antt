-- What the three sweeps come to: the least closed table, or a row that is bad in each.
use Rattle.std.proofs.Common.{◌≡◌, ℕ, zero, suc, ◌+◌, ◌-◌, ◌^◌, ◌<◌, ◌≤◌, ◌==◌, ◌⊎◌, min, Bool, true, false, ◌&&◌, if◌then◌else◌, IsSome, Option, Some, None, List, [], ◌∷◌, length, refl, sym, ap, ◌∙◌, subst, inl, inr, arith}
use Rattle.std.proofs.lemmas.Bool.Decides.{nat_tests}
use Rattle.std.proofs.lemmas.Bool.{cases_lt}
use Rattle.std.proofs.lemmas.List.{get_or_past}
use Rattle.pin_matrix.specs.Followed.{followed}
use Rattle.pin_matrix.specs.declared.setup.Setup.{Setup}
use Rattle.pin_matrix.specs.declared.span.Span.{Span}
use Rattle.span_step.specs.declared.ages.Ages.{Ages}
use Rattle.span_step.specs.declared.ages.Ages.TheVariants.{Empty, Between}
use Rattle.span_step.specs.declared.cause.Cause.{Cause}
use Rattle.span_step.specs.declared.cause.Cause.TheVariants.{U1, U2, U3, U4, U6}
use Rattle.span_step.specs.declared.cause.Causes.{Causes}
use Rattle.span_step.specs.declared.stepped.Next.{Next}
use Rattle.span_step.specs.Contexts.{Context, IsInside}
use Rattle.span_step.specs.Laws.{AllImplied, AllReach, ReachesAge, most_of, first_cause, NonePass}
use Rattle.span_step.specs.Steps.{context_steps, is_left_out}
use Rattle.span_step.proofs.Wider.{IsNarrower-context_steps}
use Rattle.span_step.proofs.Aging.{AllReach-context_steps}
use Rattle.span_step.proofs.Periods.{most_small}
use Rattle.span_step.proofs.LeftOut.{left_out_stops}
use Rattle.span_step.proofs.Overdue.{overdue_alike, overdue_bad, IsConfigured}
use Rattle.span_step.specs.Narrowing.{nexts_of}
use Rattle.span_bounds.specs.declared.entry.Entry.{Entry}
use Rattle.span_bounds.specs.declared.entry.Entry.TheVariants.{Absent, Present}
use Rattle.span_bounds.specs.declared.row.Row.{Row}
use Rattle.span_bounds.specs.Numbers.{number_of, context_at, contexts, contexts_of}
use Rattle.span_bounds.specs.Tables.{LiesAt, entry_at, rows_from, start_context, AllLieIn, EachRow, IsTableFrom, IsTable, IsClosed}
use Rattle.span_bounds.specs.Edges.{at, nexts_at, spot, AllLie, IsClosedAt}
use Rattle.span_bounds.specs.Reach.{IsHeldBy, Below}
use Rattle.span_bounds.specs.Sums.{passages, one_if, open_at}
use Rattle.span_bounds.specs.Take.{IsTaken}
use Rattle.span_bounds.specs.Answers.{HasCause, IsGoodLeast, IsBadEverywhere, cause_at, AreGoodBelow}
use Rattle.span_bounds.proofs.Placing.{number_of-context_at, context_at-number_of}
use Rattle.span_bounds.proofs.Grids.{entry_at-rows_from, IsTable-rows_from}
use Rattle.pin_matrix.specs.declared.assume.Follow.{Follow}

-- ages of at least n at an entry
abbrev pub ReachesAt : ℕ → Entry → Type 0
ReachesAt n Absent = ⊥
ReachesAt n (Present a) = ReachesAge n a

reaches_inside : (n : ℕ) (a b : Ages) → IsInside a b → ReachesAge n a → ReachesAge n b
reaches_inside n Empty b h k = absurd k
reaches_inside n (Between lo hi) Empty h k = absurd h
reaches_inside n (Between lo hi) (Between low high) h k = omega arith

reaches_lies : (n : ℕ) (a : Ages) (e : Entry) → LiesAt a e → ReachesAge n a → ReachesAt n e
reaches_lies n a Absent h k = absurd h
reaches_lies n a (Present b) h k = reaches_inside n a b h k

-- a passage among nexts that lie in a table takes its age there
passed_on : (far : Follow) (n v : ℕ) (f : ℕ → Entry) (ns : List Next) → 1 ≤ passages far v ns → AllReach n ns → AllLie far f ns → ReachesAt n (f v)
unfolding passages
passed_on far n v f [] h r l = absurd (omega arith)
passed_on far n v f (m ∷ ms) h r l = on m.passes (spot far m == v) refl refl (λ k. passed_on far n v f ms k r.1 l.1) where
  on : (y z : Bool) → m.passes ≡ y → (spot far m == v) ≡ z → (1 ≤ passages far v ms → ReachesAt n (f v)) → ReachesAt n (f v)
  on true true p q later =
      let same : spot far m ≡ v = grind (arith, nat_tests) in
      rw (← same) (reaches_lies n m.ages (f (spot far m)) l.0 (r.0 p))
  on true false p q later =
      let none : one_if (m.passes && spot far m == v) ≡ 0 = rw (p, q) refl in
      later (omega arith)
  on false z p q later =
      let none : one_if (m.passes && spot far m == v) ≡ 0 = rw p refl in
      later (omega arith)

pub nexts_reach : (u : Setup) (sp : Span) (i : ℕ) (a : Ages) (n : ℕ) → ReachesAge n a → AllReach (min n (most_of u sp) + 1) (nexts_at u sp i a)
unfolding nexts_at
nexts_reach u sp i a n h = AllReach-context_steps u sp _ a n h

-- each row that is left reaches the age at which ages stop in every closed table: were the least of their ages below it, the
-- row that passes to that row would be younger still
pub left_above : (u : Setup) (sp : Span) (l x : List Entry) → IsTaken u sp l x → (f : ℕ → Entry) → IsClosedAt u sp f → (n : ℕ) → n ≤ most_of u sp + 1 → (i : ℕ) → i < contexts_of sp → open_at (at l i) ≡ true → ReachesAt n (f i)
left_above u sp l x t f c zero b i m o = by (f i) (t.reached.sweep.least f c i m) where
  opens : (e : Entry) → open_at e ≡ true → (g : Entry) → Below e g → ReachesAt 0 g
  opens Absent o g h = absurd (bad o) where
    bad : false ≡ true → ⊥
    bad e = cc
  opens (Present a) o Absent h = absurd h
  opens (Present a) o (Present Empty) h = absurd (bad (h o)) where
    bad : false ≡ true → ⊥
    bad e = cc
  opens (Present a) o (Present (Between lo hi)) h = omega arith

  by : (g : Entry) → Below (at t.reach i) g → ReachesAt 0 g
  by g h = opens (at t.reach i) (rw (t.left.left i m o) at o) g h
left_above u sp l x t f c (suc n) b i m o = on (f w.0) refl (left_above u sp l x t f c n (omega arith) w.0 w.1.0 w.1.1.0) where
  w : (w : ℕ) × ((w < (contexts_of sp)) × ((open_at (at l w) ≡ true) × ((b : Ages) → 1 ≤ passages (followed sp) i (nexts_at u sp w b))))
  w = t.blocked i m o

  same : min n (most_of u sp) + 1 ≡ suc n
  same = omega arith

  on : (e : Entry) → f w.0 ≡ e → ReachesAt n e → ReachesAt (suc n) (f i)
  on Absent q h = absurd h
  on (Present a) q h = subst (λ y. ReachesAt y (f i)) same (passed_on (followed sp) _ i f (nexts_at u sp w.0 a) (w.1.1.1 a) (nexts_reach u sp w.0 a n h) (c.steps w.0 a w.1.0 q))

-- the age at which ages stop is a number of 32 bits
pub cap_fits : (u : Setup) (sp : Span) → most_of u sp + 1 ≤ 2 ^ 32 - 1
cap_fits u sp = omega (arith, most_small u sp)

pub most_fits : (u : Setup) (sp : Span) → most_of u sp ≤ 2 ^ 32 - 1
most_fits u sp = omega (arith, cap_fits u sp)

-- the row at a number of a table of rows in range
pub row_at : (far : Follow) (P : Row → Type 0) (n : ℕ) (rows : List Row) (i : ℕ) (a : Ages) → IsTableFrom far n rows → EachRow P rows → entry_at far rows i ≡ Present a → P (record { context = context_at far i; ages = a })
row_at far P n [] i a t e q = absurd (none q) where
  none : Absent ≡ Present a → ⊥
  none e = cc
row_at far P n (r ∷ rows) i a t e q = on (number_of far r.context == i) refl (λ y. row_at far P (number_of far r.context + 1) rows i a t.1.1 e.1 y) where
  on : (z : Bool) → (number_of far r.context == i) ≡ z → (entry_at far rows i ≡ Present a → P (record { context = context_at far i; ages = a })) → P (record { context = context_at far i; ages = a })
  on true w later =
      let same : number_of far r.context ≡ i = grind (arith, nat_tests) in
      let q' : Present r.ages ≡ Present a = rw w at q in
      let ages : r.ages ≡ a = cc in
      let context : r.context ≡ context_at far i = sym (context_at-number_of far r.context t.0) ∙ ap (context_at far) same in
      subst P (whole r.context (context_at far i) r.ages a context ages) e.0 where
        whole : (k j : Context) (b c : Ages) → k ≡ j → b ≡ c → ◌≡◌ {A = Row} (record { context = k; ages = b }) (record { context = j; ages = c })
        whole k j b c x y = rw (x, y) refl
  on false w later = later (rw w at q)

lie_in : (far : Follow) (rows : List Row) (ns : List Next) → AllLieIn far rows ns → AllLie far (entry_at far rows) ns
lie_in far rows [] h = tt
lie_in far rows (n ∷ ns) h = (h.0, lie_in far rows ns h.1)

pub in_lie : (far : Follow) (rows : List Row) (f : ℕ → Entry) → ((i : ℕ) → entry_at far rows i ≡ f i) → (ns : List Next) → AllLie far f ns → AllLieIn far rows ns
in_lie far rows f e [] h = tt
in_lie far rows f e (n ∷ ns) h = (rw (e (spot far n)) h.0, in_lie far rows f e ns h.1)

-- a closed table, as a function of the number
pub closed_at : (u : Setup) (sp : Span) (rows : List Row) → IsTable (followed sp) rows → IsClosed u sp rows → IsClosedAt u sp (entry_at (followed sp) rows)
unfolding nexts_at
closed_at u sp rows t c = record {
  starts = c.starts;
  steps = λ i a l q. lie_in (followed sp) rows _ (row_at (followed sp) (λ r. AllLieIn (followed sp) rows (nexts_of (context_steps u sp r.context r.ages))) 0 rows i a t c.steps q);
}

-- a fact of each row of a grid
each_row : (far : Follow) (P : Row → Type 0) (n : ℕ) (g : List Entry) → ((i : ℕ) (a : Ages) → i < length g → at g i ≡ Present a → P (record { context = context_at far (n + i); ages = a })) → EachRow P (rows_from far n g)
each_row far P n [] h = tt
each_row far P n (Absent ∷ g) h = each_row far P (n + 1) g (λ i a l q. subst (λ y. P (record { context = context_at far y; ages = a })) (shift n i) (h (suc i) a (omega arith) q)) where
  shift : (n i : ℕ) → n + suc i ≡ n + 1 + i
  shift n i = omega arith
each_row far P n (Present b ∷ g) h = (
  subst (λ y. P (record { context = context_at far y; ages = b })) (still n) (h 0 b (omega arith) refl),
  each_row far P (n + 1) g (λ i a l q. subst (λ y. P (record { context = context_at far y; ages = a })) (shift n i) (h (suc i) a (omega arith) q)),
) where
  shift : (n i : ℕ) → n + suc i ≡ n + 1 + i
  shift n i = omega arith

  still : (n : ℕ) → n + 0 ≡ n
  still n = omega arith

-- the same for all numbers
pub each_row_at : (far : Follow) (P : Row → Type 0) (g : List Entry) → length g ≡ contexts far → ((i : ℕ) (a : Ages) → i < contexts far → at g i ≡ Present a → P (record { context = context_at far i; ages = a })) → EachRow P (rows_from far 0 g)
each_row_at far P g e h = each_row far P 0 g (λ i a l q. subst (λ y. P (record { context = context_at far y; ages = a })) (sym (zero_plus i)) (h i a (rw e at l) q)) where
  zero_plus : (i : ℕ) → 0 + i ≡ i
  zero_plus i = omega arith

-- where no course passes there are no passages
no_passage : (far : Follow) (v : ℕ) (ns : List Next) → NonePass ns → passages far v ns ≡ 0
unfolding passages
no_passage far v [] h = refl
no_passage far v (n ∷ ns) h = rw (h.0, no_passage far v ns h.1) refl

-- only a span with a greatest bound has rows that are left
abbrev pub LeftAreBounded : Span → List Entry → Type 0
LeftAreBounded sp l = (i : ℕ) → i < contexts_of sp → open_at (at l i) ≡ true → IsSome sp.max

some_none : {A : Type 0} {o : Option A} → IsSome o → o ≡ None → ⊥
some_none {A} {o} h e = bad (rw e at h) where
  bad : false ≡ true → ⊥
  bad q = cc

module _ (u : Setup) (sp : Span) (l x : List Entry) (t : IsTaken u sp l x) (ready : IsConfigured u sp) where
  -- a row that is left is bad by ages above any bound, if ways through it aren't left out
  left_bad : LeftAreBounded sp l → (i : ℕ) → i < contexts_of sp → is_left_out sp (context_at (followed sp) i).address ≡ false → open_at (at l i) ≡ true → IsSome (cause_at u sp l x i)
  left_bad bounded i m e o = rw o (overdue_bad u sp (context_at (followed sp) i) (Between 0 (2 ^ 32 - 1)) ready (bounded i m o) e (most_fits u sp))

  -- a row that is left is passed to by one through which ways aren't left out
  passed_to : (i : ℕ) → i < contexts_of sp → open_at (at l i) ≡ true → (w : ℕ) × ((w < contexts_of sp) × ((open_at (at l w) ≡ true) × (is_left_out sp (context_at (followed sp) w).address ≡ false)))
  unfolding nexts_at
  passed_to i m o = (b.0, (b.1.0, (b.1.1.0, on (is_left_out sp (context_at (followed sp) b.0).address) refl))) where
    b : (w : ℕ) × ((w < contexts_of sp) × ((open_at (at l w) ≡ true) × ((c : Ages) → 1 ≤ passages (followed sp) i (nexts_at u sp w c))))
    b = t.blocked i m o

    on : (z : Bool) → is_left_out sp (context_at (followed sp) b.0).address ≡ z → is_left_out sp (context_at (followed sp) b.0).address ≡ false
    on true e = let none : passages (followed sp) i (nexts_of (context_steps u sp (context_at (followed sp) b.0) Empty)) ≡ 0 = no_passage (followed sp) i _ (left_out_stops u sp (context_at (followed sp) b.0) Empty e) in absurd (omega (arith, none, b.1.1.1 Empty))
    on false e = e

  pub starts : LiesAt Empty (at x (number_of (followed sp) (start_context u sp)))
  starts = on (at t.reach (number_of (followed sp) (start_context u sp))) refl (cases_lt (number_of (followed sp) (start_context u sp)) (contexts_of sp)) t.reached.sweep.begins where
    present : {a : Ages} → Present a ≡ Absent → ⊥
    present e = cc

    on : (e : Entry) → at t.reach (number_of (followed sp) (start_context u sp)) ≡ e → (number_of (followed sp) (start_context u sp) < (contexts_of sp)) ⊎ ((contexts_of sp) ≤ number_of (followed sp) (start_context u sp)) → IsHeldBy Empty (at t.reach (number_of (followed sp) (start_context u sp))) → LiesAt Empty (at x (number_of (followed sp) (start_context u sp)))
    on Absent q c h = absurd (rw q at h)
    on (Present a) q (inl m) h = t.keeps.rows (number_of (followed sp) (start_context u sp)) a m q
    on (Present a) q (inr m) h = absurd (present (sym q ∙ get_or_past t.reach (number_of (followed sp) (start_context u sp)) Absent (rw t.reached.sweep.size m)))

  module _ (bounded : LeftAreBounded sp l) (good : AreGoodBelow u sp l x (contexts_of sp)) where
    not_left : (i : ℕ) → i < contexts_of sp → open_at (at l i) ≡ false
    not_left i m = on (open_at (at l i)) refl where
      on : (z : Bool) → open_at (at l i) ≡ z → open_at (at l i) ≡ false
      on true o = let w = passed_to i m o in absurd (some_none (left_bad bounded w.0 w.1.0 w.1.1.1 w.1.1.0) (good.good w.0 w.1.0))
      on false o = o

    table_closed : IsClosed u sp (rows_from (followed sp) 0 x)
    unfolding nexts_at
    table_closed = record {
      starts = rw (entry_at-rows_from (followed sp) x (number_of (followed sp) (start_context u sp))) starts;
      steps = each_row_at (followed sp) (λ r. AllLieIn (followed sp) (rows_from (followed sp) 0 x) (nexts_of (context_steps u sp r.context r.ages))) x t.keeps.under.size (λ i a m q. in_lie (followed sp) (rows_from (followed sp) 0 x) (at x) (entry_at-rows_from (followed sp) x) _ (t.done i a m (not_left i m) q));
    }

    row_good : (i : ℕ) (a : Ages) → i < (contexts_of sp) → at x i ≡ Present a → first_cause (context_steps u sp (context_at (followed sp) i) a).causes ≡ None
    row_good i a m q = let g : cause_at u sp l x i ≡ None = good.good i m in rw (not_left i m, q) at g

    entry_in : (f : ℕ → Entry) → IsClosedAt u sp f → (i : ℕ) (a : Ages) → i < (contexts_of sp) → at x i ≡ Present a → LiesAt a (f i)
    entry_in f c i a m q = rw q at (t.keeps.under.least f c i m)

    -- no row is bad: the table is the least closed one
    pub IsGoodLeast-ends : IsGoodLeast u sp (rows_from (followed sp) 0 x)
    IsGoodLeast-ends = record {
      least = record {
        table = IsTable-rows_from (followed sp) x t.keeps.under.size;
        closed = table_closed;
        least = λ others o c. each_row_at (followed sp) (λ r. LiesAt r.ages (entry_at (followed sp) others (number_of (followed sp) r.context))) x t.keeps.under.size (λ i a m q. rw (number_of-context_at (followed sp) i) (entry_in (entry_at (followed sp) others) (closed_at u sp others o c) i a m q));
      };
      good = each_row_at (followed sp) (λ r. first_cause (context_steps u sp r.context r.ages).causes ≡ None) x t.keeps.under.size row_good;
    }

first_has : (c : Causes) (k : Cause) → first_cause c ≡ Some k → HasCause k c
first_has c k e = on c.u1 c.u2 c.u3 c.u4 c.u6 refl refl refl refl refl e where
  on : (p q r s t : Bool) → c.u1 ≡ p → c.u2 ≡ q → c.u3 ≡ r → c.u4 ≡ s → c.u6 ≡ t → (if p then Some U1 else if q then Some U2 else if r then Some U3 else if s then Some U4 else if t then Some U6 else None) ≡ Some k → HasCause k c
  on true q r s t a b d f g h = let same : U1 ≡ k = cc in subst (λ y. HasCause y c) same a
  on false true r s t a b d f g h = let same : U2 ≡ k = cc in subst (λ y. HasCause y c) same b
  on false false true s t a b d f g h = let same : U3 ≡ k = cc in subst (λ y. HasCause y c) same d
  on false false false true t a b d f g h = let same : U4 ≡ k = cc in subst (λ y. HasCause y c) same f
  on false false false false true a b d f g h = let same : U6 ≡ k = cc in subst (λ y. HasCause y c) same g
  on false false false false false a b d f g h = absurd (bad h) where
    bad : None ≡ Some k → ⊥
    bad y = cc

has_more : (k : Cause) (c d : Causes) → AllImplied c d → HasCause k c → HasCause k d
has_more U1 c d h e = h.u1 e
has_more U2 c d h e = h.u2 e
has_more U3 c d h e = h.u3 e
has_more U4 c d h e = h.u4 e
has_more U6 c d h e = h.u6 e

-- the first bad row is bad in every closed table
pub IsBadEverywhere-ends : (u : Setup) (sp : Span) (l x : List Entry) (n : ℕ) (k : Cause) → IsTaken u sp l x → LeftAreBounded sp l → IsConfigured u sp → n < contexts_of sp → cause_at u sp l x n ≡ Some k → IsBadEverywhere u sp (context_at (followed sp) n) k
IsBadEverywhere-ends u sp l x n k t bounded ready m e = record { bad = λ others o c. rw (number_of-context_at (followed sp) n) (by (entry_at (followed sp) others) (closed_at u sp others o c) (open_at (at l n)) refl) } where
  less : (a : Ages) (v : ℕ) → ReachesAge (v + 1) a → ReachesAge v a
  less Empty v h = h
  less (Between lo hi) v h = omega arith

  at_left : IsSome sp.max → (f : ℕ → Entry) → first_cause (context_steps u sp (context_at (followed sp) n) (Between 0 (2 ^ 32 - 1))).causes ≡ Some k → (g : Entry) → f n ≡ g → ReachesAt (most_of u sp + 1) g → (a : Ages) × ((f n ≡ Present a) × HasCause k (context_steps u sp (context_at (followed sp) n) a).causes)
  at_left s f w Absent q h = absurd h
  at_left s f w (Present b) q h = (b, (q, first_has _ k (overdue_alike u sp (context_at (followed sp) n) b (Between 0 (2 ^ 32 - 1)) ready s (less b (most_of u sp) h) (most_fits u sp) ∙ w)))

  at_row : (f : ℕ → Entry) (a : Ages) → first_cause (context_steps u sp (context_at (followed sp) n) a).causes ≡ Some k → (g : Entry) → f n ≡ g → LiesAt a g → (a : Ages) × ((f n ≡ Present a) × HasCause k (context_steps u sp (context_at (followed sp) n) a).causes)
  at_row f a w Absent q h = absurd h
  at_row f a w (Present b) q h = (b, (q, has_more k _ _ (IsNarrower-context_steps u sp (context_at (followed sp) n) a b h).causes (first_has _ k w)))

  none : None ≡ Some k → ⊥
  none y = cc

  in_table : (f : ℕ → Entry) → IsClosedAt u sp f → (g : Entry) → at x n ≡ g → open_at (at l n) ≡ false → (a : Ages) × ((f n ≡ Present a) × HasCause k (context_steps u sp (context_at (followed sp) n) a).causes)
  in_table f c Absent q o = absurd (none (rw (o, q) at e))
  in_table f c (Present a) q o = at_row f a (rw (o, q) at e) (f n) refl (rw q at (t.keeps.under.least f c n m))

  by : (f : ℕ → Entry) → IsClosedAt u sp f → (z : Bool) → open_at (at l n) ≡ z → (a : Ages) × ((f n ≡ Present a) × HasCause k (context_steps u sp (context_at (followed sp) n) a).causes)
  by f c true o = at_left (bounded n m o) f (rw o at e) (f n) refl (left_above u sp l x t f c (most_of u sp + 1) (omega arith) n m o)
  by f c false o = in_table f c (at x n) refl o
