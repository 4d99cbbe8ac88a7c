-- The third sweep keeps what it says of its rows and numbers.
use Rattle.std.proofs.Common.{◌≡◌, ◌≢◌, ℕ, zero, suc, ◌+◌, ◌-◌, ◌<◌, ◌≤◌, ◌==◌, ◌⊎◌, Bool, true, false, ◌&&◌, if◌then◌else◌, MatchBool, List, [], ◌∷◌, ◌++◌, length, get_or, take, drop, slice_index, sum_by, refl, sym, ap, ◌∙◌, subst, inl, inr, add-zero, arith}
use Rattle.std.proofs.Math.ListN.{set}
use Rattle.std.proofs.lemmas.Bool.Decides.{nat_tests}
use Rattle.std.proofs.lemmas.Bool.{cases_lt, and_parts, true_from_ne_false, cases_eq, both_ways, eqb-true, eq-eqb}
use Rattle.std.proofs.lemmas.List.{length-set, get_or-set_same, get_or-set_other, drop_more, length_push, get_or_past, take_more, take_all}
use Rattle.std.proofs.lemmas.List.Sums.{sum_by-set, sum_by_push}
use Rattle.pin_matrix.specs.Followed.{followed}
use Rattle.pin_matrix.specs.declared.setup.Setup.{Setup}
use Rattle.pin_matrix.specs.declared.span.Span.{Span}
use Rattle.span_step.specs.declared.ages.Ages.{Ages}
use Rattle.span_step.specs.declared.ages.Ages.TheVariants.{Empty, Between}
use Rattle.span_step.specs.declared.stepped.Next.{Next}
use Rattle.span_step.specs.Contexts.{is_open}
use Rattle.span_step.specs.Laws.{AreAlike, GoesLike, SameAfterEdge}
use Rattle.span_step.proofs.Alike.{SameAfterEdge-context_steps}
use Rattle.span_bounds.specs.declared.entry.Entry.{Entry}
use Rattle.span_bounds.specs.declared.entry.Entry.TheVariants.{Absent, Present}
use Rattle.span_bounds.specs.Tables.{LiesAt}
use Rattle.span_bounds.specs.Edges.{at, nexts_at, spot, AllLie, Among, EndsAt}
use Rattle.span_bounds.specs.Reach.{IsHeldBy, Below, AreHeld, IsReach}
use Rattle.span_bounds.specs.Sums.{total, passages, waits, waits_by, one_if, open_at, join_into}
use Rattle.span_bounds.specs.Count.{LieBut, Count}
use Rattle.span_bounds.specs.Take.{Take, Taking, IsTaken, IsTaking, TakesRow, AreReady, Passed, work_left, is_ready, ages_or_none, PassToLeft, unmet}
use Rattle.span_bounds.proofs.Coming.{EachNext-more, EachNext-map, EachNext-both, Among-push, Among-pop, below_or}
use Rattle.span_bounds.proofs.Reaching.{at_same, at_other}
use Rattle.span_bounds.proofs.Joins.{joined_at, lies_at_join, lies_still, IsUnder-join, closed_lies, beside}
use Rattle.span_bounds.proofs.Counts.{but_still, passages-nil, one_more}
use Rattle.span_bounds.proofs.Totals.{total-zero, total-change, total-one, total-some, counted_each, passages_alike, passages-cons, waits_shut}
use Rattle.span_bounds.specs.Numbers.{contexts_of}
use Rattle.pin_matrix.specs.declared.assume.Follow.{Follow}

different : {e : Entry} {b : Ages} → e ≡ Absent → e ≡ Present b → ⊥
different p q = cc

all_but_false : (far : Follow) (f : ℕ → Entry) (ns : List Next) → LieBut far false f ns → AllLie far f ns
all_but_false far f ns h = EachNext-map (λ n. (false && n.passes) ≡ false → LiesAt n.ages (f (spot far n))) (λ n. LiesAt n.ages (f (spot far n))) (λ n k. k refl) ns h

pub all_still : (far : Follow) (x : List Entry) (p : ℕ) (a : Ages) (ns : List Next) → p < length x → AllLie far (at x) ns → AllLie far (at (joined_at x p a)) ns
all_still far x p a ns l h = EachNext-map (λ n. LiesAt n.ages (at x (spot far n))) (λ n. LiesAt n.ages (at (joined_at x p a) (spot far n))) (λ n k. lies_still x p a n.ages (spot far n) l k) ns h

-- the third sweep begins with the first's grid and the second's table and numbers
pub Take-starts : (u : Setup) (sp : Span) (g x : List Entry) (m ready : List ℕ) → IsReach u sp g → Count u sp g x m (contexts_of sp) → AreReady g m ready (length g) → Take u sp g g x m ready
Take-starts u sp g x m ready r c q = record {
  keeps = record { under = c.under; rows = c.rows; fresh = c.fresh };
  left = record { size = r.sweep.size; left = λ i l o. refl };
  numbers = c.numbers;
  near = λ i h. rw r.sweep.size at (q.near i h);
  count = c.count;
  queued = λ i l o z. q.queued i (rw r.sweep.size l) o z;
  settled = λ i l shut. c.count i l ∙ total-zero (contexts_of sp) _ (λ w m. waits_shut u sp g i w (λ a e. held w a m e) shut);
  done = λ i a l shut e. done i a l (at g i) refl shut e (c.under.within i l);
} where
  held : (w : ℕ) (a : Ages) → w < (contexts_of sp) → at g w ≡ Present a → AreHeld (followed sp) (at g) (nexts_at u sp w a)
  held w a m e = elim (r.sweep.steps w a m e) [ inl h ↦ absurd h | inr h ↦ h ]

  shut_empty : (a b : Ages) → is_open b ≡ false → (is_open a ≡ true → is_open b ≡ true) → a ≡ b
  shut_empty Empty Empty q h = refl
  shut_empty (Between lo hi) Empty q h = absurd (both_ways _ refl (h refl))
  shut_empty a (Between lo hi) q h = absurd (both_ways _ q refl)

  done : (i : ℕ) (a : Ages) → i < (contexts_of sp) → (e : Entry) → at g i ≡ e → open_at (at g i) ≡ false → at x i ≡ Present a → Below (at x i) (at g i) → AllLie (followed sp) (at x) (nexts_at u sp i a)
  done i a l Absent q shut e h = absurd (rw (e, q) at h)
  done i a l (Present b) q shut e h =
      let shut' : is_open b ≡ false = rw q at shut in
      let h' : IsHeldBy a (Present b) = rw (e, q) at h in
      let same : a ≡ b = shut_empty a b shut' h' in
      let f : LieBut (followed sp) false (at x) (nexts_at u sp i b) = rw shut' at (c.fresh i b l q) in
      rw same (all_but_false (followed sp) (at x) _ f)

-- a number that isn't ready needn't wait
pub IsTaking-skip : (u : Setup) (sp : Span) (l x : List Entry) (m ready : List ℕ) (i : ℕ) → is_ready l m i ≡ false → IsTaking u sp l x m (i ∷ ready) → IsTaking u sp l x m ready
IsTaking-skip u sp l x m ready i q t = record {
  reach = t.reach;
  reached = t.reached;
  take = record {
    keeps = s.keeps;
    left = s.left;
    numbers = s.numbers;
    near = λ j h. s.near j (inr h);
    count = s.count;
    queued = λ j b o z. elim (s.queued j b o z) [ inl e ↦ absurd (bad j e o z) | inr h ↦ h ];
    settled = s.settled;
    done = s.done;
  };
} where
  s : Take u sp t.reach l x m (i ∷ ready)
  s = t.take

  bad : (j : ℕ) → j ≡ i → open_at (at l j) ≡ true → slice_index m j ≡ 0 → ⊥
  bad j e o z = both_ways _ (rw (← e) at q) (ready_is j o z) where
    ready_is : (j : ℕ) → open_at (at l j) ≡ true → slice_index m j ≡ 0 → is_ready l m j ≡ true
    ready_is j o z = rw (o, z) refl

-- a row begins to be taken
pub TakesRow-begins : (u : Setup) (sp : Span) (l l' x : List Entry) (m ready : List ℕ) (i : ℕ) (a : Ages) → i < (contexts_of sp) → is_ready l m i ≡ true → l' ≡ set l i Absent → a ≡ ages_or_none (at x i) → IsTaking u sp l x m (i ∷ ready) → TakesRow u sp l' x m ready i a [] (nexts_at u sp i a)
TakesRow-begins u sp l l' x m ready i a b q e o t = rw e (record {
  reach = t.reach;
  reached = t.reached;
  taking = record {
    keeps = s.keeps;
    left = record { size = length-set l i Absent ∙ s.left.size; left = λ j c p. left j c p (cases_eq j i) };
    numbers = s.numbers;
    near = λ j h. s.near j (inr h);
    count = λ v c. s.count v c ∙ count v;
    queued = λ j c p z. queued j c p z (cases_eq j i);
    settled = λ j c p. settled j c p (cases_eq j i);
    finished = λ j d c p n w. s.done j d c (rw (at_other l i j Absent n) at p) w;
    taken = rw (at_same l i Absent inside) refl;
    own = own;
    held = tt;
    sure = sure (at l i) refl;
    least = λ f c. closed_lies u sp f i a b c (rw own at (s.keeps.under.least f c i b));
  };
}) where
  s : Take u sp t.reach l x m (i ∷ ready)
  s = t.take

  open_i : open_at (at l i) ≡ true
  open_i = (and_parts (open_at (at l i)) (slice_index m i == 0) q).0

  zero_i : slice_index m i ≡ 0
  zero_i = eqb-true (slice_index m i) 0 (and_parts (open_at (at l i)) (slice_index m i == 0) q).1

  inside : i < length l
  inside = rw s.left.size b

  same_i : at l i ≡ at t.reach i
  same_i = s.left.left i b open_i

  row : (e : Entry) → at l i ≡ e → LiesAt Empty (at x i)
  row Absent w = absurd (both_ways _ (rw w refl) open_i)
  row (Present c) w = s.keeps.rows i c b (sym same_i ∙ w)

  there : (e : Entry) → LiesAt Empty e → e ≡ Present (ages_or_none e)
  there Absent h = absurd h
  there (Present c) h = refl

  own : at x i ≡ Present a
  own = there (at x i) (row (at l i) refl) ∙ ap Present (sym o)

  left : (j : ℕ) → j < (contexts_of sp) → open_at (at (set l i Absent) j) ≡ true → (j ≡ i) ⊎ (j ≢ i) → at (set l i Absent) j ≡ at t.reach j
  left j c p (inl w) = absurd (both_ways _ (rw (w, at_same l i Absent inside) refl) p)
  left j c p (inr n) = at_other l i j Absent n ∙ s.left.left j c (rw (at_other l i j Absent n) at p)

  passes_i : (v : ℕ) (e : Entry) → at l i ≡ e → waits u sp (at l) v i ≡ passages (followed sp) v (nexts_at u sp i a)
  passes_i v Absent w = absurd (both_ways _ (rw w refl) open_i)
  passes_i v (Present c) w = let oc : is_open c ≡ true = rw w at open_i in rw (w, oc) (passages_alike u sp v i c a)

  other_waits : (v w : ℕ) → w ≢ i → waits u sp (at l) v w ≡ waits u sp (at (set l i Absent)) v w
  other_waits v w n = rw (at_other l i w Absent n) refl

  no_waits : (v : ℕ) → waits u sp (at (set l i Absent)) v i ≡ 0
  no_waits v = rw (at_same l i Absent inside) refl

  count : (v : ℕ) → total (contexts_of sp) (waits u sp (at l) v) ≡ total (contexts_of sp) (waits u sp (at (set l i Absent)) v) + passages (followed sp) v (nexts_at u sp i a)
  count v = total-change (contexts_of sp) (waits u sp (at l) v) (waits u sp (at (set l i Absent)) v) i b (λ w c n. other_waits v w n) (no_waits v) ∙ ap (λ t. total (contexts_of sp) (waits u sp (at (set l i Absent)) v) + t) (passes_i v (at l i) refl)

  queued : (j : ℕ) → j < (contexts_of sp) → open_at (at (set l i Absent) j) ≡ true → slice_index m j ≡ 0 → (j ≡ i) ⊎ (j ≢ i) → Among j ready
  queued j c p z (inl w) = absurd (both_ways _ (rw (w, at_same l i Absent inside) refl) p)
  queued j c p z (inr n) = elim (s.queued j c (rw (at_other l i j Absent n) at p) z) [ inl w ↦ absurd (n w) | inr h ↦ h ]

  settled : (j : ℕ) → j < (contexts_of sp) → open_at (at (set l i Absent) j) ≡ false → (j ≡ i) ⊎ (j ≢ i) → slice_index m j ≡ 0
  settled j c p (inl w) = rw w zero_i
  settled j c p (inr n) = s.settled j c (rw (at_other l i j Absent n) at p)

  sure : (e : Entry) → at l i ≡ e → LieBut (followed sp) true (at x) (nexts_at u sp i a)
  sure Absent w = absurd (both_ways _ (rw w refl) open_i)
  sure (Present c) w =
      let oc : is_open c ≡ true = rw w at open_i in
      let f : LieBut (followed sp) true (at x) (nexts_at u sp i c) = rw oc at (s.keeps.fresh i c b (sym same_i ∙ w)) in
      beside u sp (at x) i a c f

-- the number at p is one less
lowered_number : (m : List ℕ) (p v : ℕ) → p < length m → 1 ≤ slice_index m p → slice_index (set m p (slice_index m p - 1)) v + one_if (p == v) ≡ slice_index m v
lowered_number m p v l h = on (cases_eq v p) where
  on : (v ≡ p) ⊎ (v ≢ p) → slice_index (set m p (slice_index m p - 1)) v + one_if (p == v) ≡ slice_index m v
  on (inl e) = let t : (p == v) ≡ true = grind (arith, nat_tests) in rw (t, e, get_or-set_same m p (slice_index m p - 1) 0 l) (omega arith)
  on (inr n) = let t : (p == v) ≡ false = grind (arith, nat_tests) in rw (t, get_or-set_other m p v (slice_index m p - 1) 0 n) (omega arith)

-- a next to which a row that is taken passes is waited for
pub passed_waits : (u : Setup) (sp : Span) (l x : List Entry) (m ready : List ℕ) (i : ℕ) (a : Ages) (done rest : List Next) (n : Next) → TakesRow u sp l x m ready i a done (n ∷ rest) → spot (followed sp) n < (contexts_of sp) → n.passes ≡ true → 1 ≤ slice_index m (spot (followed sp) n)
passed_waits u sp l x m ready i a done rest n t b q =
    let c = t.taking.count (spot (followed sp) n) b in
    let d = passages-cons (followed sp) (spot (followed sp) n) n rest in
    let o : one_if (n.passes && spot (followed sp) n == spot (followed sp) n) ≡ 1 = rw (q, eq-eqb (spot (followed sp) n) _ refl) refl in
    omega arith

-- one next more, as the code has it
pub TakesRow-step : (u : Setup) (sp : Span) (l x x' : List Entry) (m m' ready ready' : List ℕ) (i : ℕ) (a : Ages) (items : List Next) (k : ℕ) (n : Next) → k < length items → n ≡ get_or items k n → spot (followed sp) n < (contexts_of sp) → i < (contexts_of sp) →
    TakesRow u sp l x m ready i a (take k items) (drop k items) → Passed (followed sp) n x x' m m' ready ready' → TakesRow u sp l x' m' ready' i a (take (k + 1) items) (drop (k + 1) items)
TakesRow-step u sp l x x' m m' ready ready' i a items k n lk q b bi t0 r = on n.passes refl r where
  split : drop k items ≡ n ∷ drop (k + 1) items
  split = drop_more items k n lk ∙ ap (λ y. y ∷ drop (k + 1) items) (sym q)

  t : TakesRow u sp l x m ready i a (take k items) (n ∷ drop (k + 1) items)
  t = rw split at t0

  s : Taking u sp t.reach l x m ready i a (take k items) (n ∷ drop (k + 1) items)
  s = t.taking

  p : ℕ
  p = spot (followed sp) n

  inside_m : spot (followed sp) n < length m
  inside_m = rw s.numbers b

  inside_x : spot (followed sp) n < length x
  inside_x = rw s.keeps.under.size b

  on : (z : Bool) → n.passes ≡ z → MatchBool z ((x' ≡ joined_at x (spot (followed sp) n) n.ages) × ((m' ≡ set m (spot (followed sp) n) (slice_index m (spot (followed sp) n) - 1)) × (ready' ≡ (if slice_index m (spot (followed sp) n) == 1 then ready ++ spot (followed sp) n ∷ [] else ready)))) ((x' ≡ x) × ((m' ≡ m) × (ready' ≡ ready))) → TakesRow u sp l x' m' ready' i a (take (k + 1) items) (drop (k + 1) items)
  on false z w = rw (w.0, w.1.0, w.1.1) (record {
    reach = t.reach;
    reached = t.reached;
    taking = record {
      keeps = s.keeps;
      left = s.left;
      numbers = s.numbers;
      near = s.near;
      count = λ v c. s.count v c ∙ ap (λ y. total (contexts_of sp) (waits u sp (at l) v) + y) (none v);
      queued = s.queued;
      settled = s.settled;
      finished = s.finished;
      taken = s.taken;
      own = s.own;
      held = EachNext-more (λ y. LiesAt y.ages (at x (spot (followed sp) y))) items k n lk s.held (subst (λ y. LiesAt y.ages (at x (spot (followed sp) y))) q (s.sure.0 z));
      sure = s.sure.1;
      least = λ f c. (s.least f c).1;
    };
  }) where
    none : (v : ℕ) → passages (followed sp) v (n ∷ drop (k + 1) items) ≡ passages (followed sp) v (drop (k + 1) items)
    none v = passages-cons (followed sp) v n (drop (k + 1) items) ∙ rw z (omega arith)
  on true z w = rw (w.0, w.1.0, w.1.1) (record {
    reach = t.reach;
    reached = t.reached;
    taking = record {
      keeps = record {
        under = IsUnder-join u sp t.reach x (spot (followed sp) n) n.ages b s.keeps.under (λ f c. (s.least f c).0) (held_there (at t.reach (spot (followed sp) n)) open_reach);
        rows = λ j c d e. lies_still x (spot (followed sp) n) n.ages Empty j inside_x (s.keeps.rows j c d e);
        fresh = λ j c d e. but_still (followed sp) (is_open c) x (spot (followed sp) n) n.ages _ inside_x (s.keeps.fresh j c d e);
      };
      left = s.left;
      numbers = length-set m (spot (followed sp) n) (slice_index m (spot (followed sp) n) - 1) ∙ s.numbers;
      near = λ j h. near (slice_index m (spot (followed sp) n) == 1) j h;
      count = λ v c. count v (s.count v c) (lowered_number m (spot (followed sp) n) v inside_m some) (passages-cons (followed sp) v n (drop (k + 1) items));
      queued = λ j c o e. queued j c o e (cases_eq j (spot (followed sp) n));
      settled = λ j c o. settled j c o (cases_eq j (spot (followed sp) n));
      finished = λ j d c o h e. finished j d c o h e (cases_eq j (spot (followed sp) n));
      taken = s.taken;
      own = at_other x (spot (followed sp) n) i (Present (join_into n.ages (at x (spot (followed sp) n)))) apart ∙ s.own;
      held = EachNext-more (λ y. LiesAt y.ages (at (joined_at x (spot (followed sp) n) n.ages) (spot (followed sp) y))) items k n lk (all_still (followed sp) x (spot (followed sp) n) n.ages _ inside_x s.held) (subst (λ y. LiesAt y.ages (at (joined_at x (spot (followed sp) n) n.ages) (spot (followed sp) y))) q (lies_at_join x (spot (followed sp) n) n.ages inside_x));
      sure = but_still (followed sp) true x (spot (followed sp) n) n.ages _ inside_x s.sure.1;
      least = λ f c. (s.least f c).1;
    };
  }) where
    some : 1 ≤ slice_index m (spot (followed sp) n)
    some = passed_waits u sp l x m ready i a (take k items) (drop (k + 1) items) n t b z

    open_p : open_at (at l (spot (followed sp) n)) ≡ true
    open_p = true_from_ne_false _ (λ o. absurd (zero_one (s.settled (spot (followed sp) n) b o) some)) where
      zero_one : {v : ℕ} → v ≡ 0 → 1 ≤ v → ⊥
      zero_one e h = omega arith

    open_reach : open_at (at t.reach (spot (followed sp) n)) ≡ true
    open_reach = rw (s.left.left (spot (followed sp) n) b open_p) at open_p

    held_there : (e : Entry) → open_at e ≡ true → IsHeldBy n.ages e
    held_there Absent o = absurd (both_ways _ refl o)
    held_there (Present c) o = λ y. o

    apart : i ≢ spot (followed sp) n
    apart e = both_ways _ s.taken (rw (← e) at open_p)

    near : (y : Bool) (j : ℕ) → Among j (if y then ready ++ spot (followed sp) n ∷ [] else ready) → j < (contexts_of sp)
    near true j h = elim (Among-pop j (spot (followed sp) n) ready h) [ inl e ↦ rw e b | inr o ↦ s.near j o ]
    near false j h = s.near j h

    count : (v : ℕ) → slice_index m v ≡ total (contexts_of sp) (waits u sp (at l) v) + passages (followed sp) v (n ∷ drop (k + 1) items) → slice_index (set m (spot (followed sp) n) (slice_index m (spot (followed sp) n) - 1)) v + one_if (spot (followed sp) n == v) ≡ slice_index m v → passages (followed sp) v (n ∷ drop (k + 1) items) ≡ one_if (n.passes && spot (followed sp) n == v) + passages (followed sp) v (drop (k + 1) items) → slice_index (set m (spot (followed sp) n) (slice_index m (spot (followed sp) n) - 1)) v ≡ total (contexts_of sp) (waits u sp (at l) v) + passages (followed sp) v (drop (k + 1) items)
    count v h d e = let e' : passages (followed sp) v (n ∷ drop (k + 1) items) ≡ one_if (spot (followed sp) n == v) + passages (followed sp) v (drop (k + 1) items) = e ∙ ap (λ y. y + passages (followed sp) v (drop (k + 1) items)) (one_more (followed sp) v n z) in omega arith

    pushed : (y : Bool) (j : ℕ) → Among j ready → Among j (if y then ready ++ spot (followed sp) n ∷ [] else ready)
    pushed true j h = Among-push j (spot (followed sp) n) ready (inr h)
    pushed false j h = h

    pushed_itself : (y : Bool) → y ≡ true → Among (spot (followed sp) n) (if y then ready ++ spot (followed sp) n ∷ [] else ready)
    pushed_itself true e = Among-push (spot (followed sp) n) (spot (followed sp) n) ready (inl refl)
    pushed_itself false e = absurd (both_ways _ refl e)

    one_left : (v : ℕ) → 1 ≤ v → v - 1 ≡ 0 → (v == 1) ≡ true
    one_left v h e = let o : v ≡ 1 = omega arith in grind (arith, nat_tests)

    queued : (j : ℕ) → j < (contexts_of sp) → open_at (at l j) ≡ true → slice_index (set m (spot (followed sp) n) (slice_index m (spot (followed sp) n) - 1)) j ≡ 0 → (j ≡ spot (followed sp) n) ⊎ (j ≢ spot (followed sp) n) → Among j (if slice_index m (spot (followed sp) n) == 1 then ready ++ spot (followed sp) n ∷ [] else ready)
    queued j c o e (inl y) =
        let e' : slice_index m (spot (followed sp) n) - 1 ≡ 0 = rw (y, get_or-set_same m (spot (followed sp) n) (slice_index m (spot (followed sp) n) - 1) 0 inside_m) at e in
        rw y (pushed_itself (slice_index m (spot (followed sp) n) == 1) (one_left (slice_index m (spot (followed sp) n)) some e'))
    queued j c o e (inr d) = pushed (slice_index m (spot (followed sp) n) == 1) j (s.queued j c o (rw (get_or-set_other m (spot (followed sp) n) j (slice_index m (spot (followed sp) n) - 1) 0 d) at e))

    settled : (j : ℕ) → j < (contexts_of sp) → open_at (at l j) ≡ false → (j ≡ spot (followed sp) n) ⊎ (j ≢ spot (followed sp) n) → slice_index (set m (spot (followed sp) n) (slice_index m (spot (followed sp) n) - 1)) j ≡ 0
    settled j c o (inl y) = absurd (both_ways _ (rw y at o) open_p)
    settled j c o (inr d) = rw (get_or-set_other m (spot (followed sp) n) j (slice_index m (spot (followed sp) n) - 1) 0 d) (s.settled j c o)

    finished : (j : ℕ) (d : Ages) → j < (contexts_of sp) → open_at (at l j) ≡ false → (j ≡ i → ⊥) → at (joined_at x (spot (followed sp) n) n.ages) j ≡ Present d → (j ≡ spot (followed sp) n) ⊎ (j ≢ spot (followed sp) n) → AllLie (followed sp) (at (joined_at x (spot (followed sp) n) n.ages)) (nexts_at u sp j d)
    finished j d c o h e (inl y) = absurd (both_ways _ (rw y at o) open_p)
    finished j d c o h e (inr y) = all_still (followed sp) x (spot (followed sp) n) n.ages _ inside_x (s.finished j d c o h (rw (at_other x (spot (followed sp) n) j (Present (join_into n.ages (at x (spot (followed sp) n)))) y) at e))

-- all nexts are done
pub TakesRow-ends : (u : Setup) (sp : Span) (l x : List Entry) (m ready : List ℕ) (i : ℕ) (a : Ages) → TakesRow u sp l x m ready i a (nexts_at u sp i a) [] → IsTaking u sp l x m ready
TakesRow-ends u sp l x m ready i a t = record {
  reach = t.reach;
  reached = t.reached;
  take = record {
    keeps = s.keeps;
    left = s.left;
    numbers = s.numbers;
    near = s.near;
    count = λ v c. s.count v c ∙ nothing v;
    queued = s.queued;
    settled = s.settled;
    done = λ j d c o e. done j d c o e (cases_eq j i);
  };
} where
  s : Taking u sp t.reach l x m ready i a (nexts_at u sp i a) []
  s = t.taking

  nothing : (v : ℕ) → total (contexts_of sp) (waits u sp (at l) v) + passages (followed sp) v [] ≡ total (contexts_of sp) (waits u sp (at l) v)
  nothing v = rw (passages-nil (followed sp) v) (omega arith)

  done : (j : ℕ) (d : Ages) → j < (contexts_of sp) → open_at (at l j) ≡ false → at x j ≡ Present d → (j ≡ i) ⊎ (j ≢ i) → AllLie (followed sp) (at x) (nexts_at u sp j d)
  done j d c o e (inl y) =
      let e' : at x i ≡ Present d = rw y at e in
      let own : at x i ≡ Present a = s.own in
      let same : a ≡ d = cc in rw (y, ← same) s.held
  done j d c o e (inr y) = s.finished j d c o y e

-- a number is taken from the end
pub IsTaking-pop : (u : Setup) (sp : Span) (l x : List Entry) (m w w' : List ℕ) (i : ℕ) → w ≡ w' ++ i ∷ [] → IsTaking u sp l x m w → IsTaking u sp l x m (i ∷ w')
IsTaking-pop u sp l x m w w' i e t0 = record {
  reach = t.reach;
  reached = t.reached;
  take = record {
    keeps = s.keeps;
    left = s.left;
    numbers = s.numbers;
    near = λ j h. s.near j (Among-push j i w' h);
    count = s.count;
    queued = λ j c o z. Among-pop j i w' (s.queued j c o z);
    settled = s.settled;
    done = s.done;
  };
} where
  t : IsTaking u sp l x m (w' ++ i ∷ [])
  t = rw e at t0

  s : Take u sp t.reach l x m (w' ++ i ∷ [])
  s = t.take

follows_left : (far : Follow) (l : List Entry) (ms ns : List Next) → AreAlike (GoesLike SameAfterEdge) ms ns → PassToLeft far l ns → PassToLeft far l ms
follows_left far l [] ns h k = tt
follows_left far l (m ∷ ms) [] h k = absurd h
follows_left far l (m ∷ ms) (n ∷ ns) h k = (λ p. rw h.0.context (k.0 (sym h.0.passes ∙ p)), follows_left far l ms ns h.1 k.1)

-- to what a row passes doesn't depend on its ages
left_alike : (u : Setup) (sp : Span) (l : List Entry) (i : ℕ) (a b : Ages) → PassToLeft (followed sp) l (nexts_at u sp i b) → PassToLeft (followed sp) l (nexts_at u sp i a)
unfolding nexts_at
left_alike u sp l i a b h = follows_left (followed sp) l _ _ (SameAfterEdge-context_steps u sp _ a b) h

-- nothing waits any more
pub IsTaken-ends : (u : Setup) (sp : Span) (l x : List Entry) (m ready : List ℕ) → ready ≡ [] → IsTaking u sp l x m ready → IsTaken u sp l x
IsTaken-ends u sp l x m ready none t = record {
  reach = t.reach;
  reached = t.reached;
  keeps = s.keeps;
  left = s.left;
  stays = λ w b c o. stays w b c o (at l w) refl;
  blocked = λ i c o. blocked i c o;
  done = s.done;
} where
  s : Take u sp t.reach l x m ready
  s = t.take

  nobody : (i : ℕ) → Among i ready → ⊥
  nobody i h = let h' : Among i [] = rw none at h in h'

  some : (i : ℕ) → i < (contexts_of sp) → open_at (at l i) ≡ true → 1 ≤ total (contexts_of sp) (waits u sp (at l) i)
  some i c o = elim (cases_lt 0 (slice_index m i)) [ inl h ↦ omega (arith, s.count i c) | inr h ↦ absurd (nobody i (s.queued i c o (omega arith))) ]

  near : (a : Ages) (i : ℕ) → IsHeldBy a (at t.reach i) → (i < (contexts_of sp)) ⊎ ((contexts_of sp) ≤ i) → i < (contexts_of sp)
  near a i h (inl c) = c
  near a i h (inr c) = absurd (rw (get_or_past t.reach i Absent (rw t.reached.sweep.size c)) at h)

  held : (w : ℕ) (a : Ages) → w < (contexts_of sp) → at t.reach w ≡ Present a → AreHeld (followed sp) (at t.reach) (nexts_at u sp w a)
  held w a c q = elim (t.reached.sweep.steps w a c q) [ inl h ↦ absurd h | inr h ↦ h ]

  waited : (v w : ℕ) (a : Ages) → w < (contexts_of sp) → at l w ≡ Present a → is_open a ≡ true → passages (followed sp) v (nexts_at u sp w a) ≤ total (contexts_of sp) (waits u sp (at l) v)
  waited v w a c q o = let e : waits u sp (at l) v w ≡ passages (followed sp) v (nexts_at u sp w a) = rw (q, o) refl in omega (arith, total-one (contexts_of sp) (waits u sp (at l) v) w c)

  goes_left : (w : ℕ) (a : Ages) → w < (contexts_of sp) → at l w ≡ Present a → is_open a ≡ true → (n : Next) → (n.passes ≡ true → 1 ≤ passages (followed sp) (spot (followed sp) n) (nexts_at u sp w a)) → IsHeldBy n.ages (at t.reach (spot (followed sp) n)) → n.passes ≡ true → open_at (at l (spot (followed sp) n)) ≡ true
  goes_left w a c q o n k h p = true_from_ne_false _ (λ shut. never (s.count (spot (followed sp) n) b) (s.settled (spot (followed sp) n) b shut) (k p) (waited (spot (followed sp) n) w a c q o)) where
    b : spot (followed sp) n < (contexts_of sp)
    b = near n.ages (spot (followed sp) n) h (cases_lt (spot (followed sp) n) (contexts_of sp))

    never : {number sum own : ℕ} → number ≡ sum → number ≡ 0 → 1 ≤ own → own ≤ sum → ⊥
    never e z y g = omega arith

  stays : (w : ℕ) (b : Ages) → w < (contexts_of sp) → open_at (at l w) ≡ true → (e : Entry) → at l w ≡ e → PassToLeft (followed sp) l (nexts_at u sp w b)
  stays w b c o Absent q = absurd (both_ways _ refl (rw q at o))
  stays w b c o (Present a) q =
      let opens : is_open a ≡ true = rw q at o in
      let there : at t.reach w ≡ Present a = sym (s.left.left w c o) ∙ q in
      left_alike u sp l w b a (EachNext-both (λ n. n.passes ≡ true → 1 ≤ passages (followed sp) (spot (followed sp) n) (nexts_at u sp w a)) (λ n. IsHeldBy n.ages (at t.reach (spot (followed sp) n))) (λ n. n.passes ≡ true → open_at (at l (spot (followed sp) n)) ≡ true) (goes_left w a c q opens) _ (counted_each (followed sp) _) (held w a c there))

  by : (i w : ℕ) (e : Entry) → at l w ≡ e → 1 ≤ waits_by u sp i w e → (open_at (at l w) ≡ true) × ((b : Ages) → 1 ≤ passages (followed sp) i (nexts_at u sp w b))
  by i w Absent q h = absurd (omega arith)
  by i w (Present a) q h = inner (is_open a) refl h where
    inner : (z : Bool) → is_open a ≡ z → 1 ≤ (if z then passages (followed sp) i (nexts_at u sp w a) else 0) → (open_at (at l w) ≡ true) × ((b : Ages) → 1 ≤ passages (followed sp) i (nexts_at u sp w b))
    inner true o h = (rw q o, λ b. rw (passages_alike u sp i w b a) h)
    inner false o h = absurd (omega arith)

  blocked : (i : ℕ) → i < (contexts_of sp) → open_at (at l i) ≡ true → (w : ℕ) × ((w < (contexts_of sp)) × ((open_at (at l w) ≡ true) × ((b : Ages) → 1 ≤ passages (followed sp) i (nexts_at u sp w b))))
  blocked i c o = let r = total-some (contexts_of sp) (waits u sp (at l) i) (some i c o) in (r.0, (r.1.0, by i r.0 (at l r.0) refl r.1.1))

unmet_at_most : (n : ℕ) → unmet n ≤ 1
unmet_at_most zero = omega arith
unmet_at_most (suc n) = omega arith

-- a row that waits for one passage less, and may be ready then
passed_work : (v a b : ℕ) (r : List ℕ) (p : ℕ) → 1 ≤ v → a + unmet v ≡ b + unmet (v - 1) → a + length (if v == 1 then r ++ p ∷ [] else r) ≤ b + length r
passed_work zero a b r p l e = absurd (omega arith)
passed_work (suc zero) a b r p l e = rw (length_push r p) (omega arith)
passed_work (suc (suc v)) a b r p l e =
    let down : suc (suc v) - 1 ≡ suc v = omega arith in
    let many : (suc (suc v) == 1) ≡ false = grind (arith, nat_tests) in
    let e' : a + 1 ≡ b + 1 = rw down at e in
    rw many (omega arith)

-- a pass makes at most as much ready as it takes from what waits
pub work_passed : (far : Follow) (n : Next) (x x' : List Entry) (m m' r r' : List ℕ) → spot far n < length m → (n.passes ≡ true → 1 ≤ slice_index m (spot far n)) → Passed far n x x' m m' r r' → work_left m' r' ≤ work_left m r
work_passed far n x x' m m' r r' l some h = on n.passes refl h where
  on : (z : Bool) → n.passes ≡ z → MatchBool z ((x' ≡ joined_at x (spot far n) n.ages) × ((m' ≡ set m (spot far n) (slice_index m (spot far n) - 1)) × (r' ≡ (if slice_index m (spot far n) == 1 then r ++ spot far n ∷ [] else r)))) ((x' ≡ x) × ((m' ≡ m) × (r' ≡ r))) → work_left m' r' ≤ work_left m r
  on true z w = rw (w.1.0, w.1.1) (passed_work (slice_index m (spot far n)) _ _ r (spot far n) (some z) (sum_by-set unmet m (spot far n) (slice_index m (spot far n) - 1) 0 l))
  on false z w = rw (w.1.0, w.1.1) (omega arith)

-- as the code has it, before a next is passed to
pub next_waits : (u : Setup) (sp : Span) (l x : List Entry) (m ready : List ℕ) (i : ℕ) (a : Ages) (items : List Next) (k : ℕ) (n : Next) → k < length items → n ≡ get_or items k n → spot (followed sp) n < (contexts_of sp) → TakesRow u sp l x m ready i a (take k items) (drop k items) → n.passes ≡ true → 1 ≤ slice_index m (spot (followed sp) n)
next_waits u sp l x m ready i a items k n lk q b t z =
    let split : drop k items ≡ n ∷ drop (k + 1) items = drop_more items k n lk ∙ ap (λ y. y ∷ drop (k + 1) items) (sym q) in
    passed_waits u sp l x m ready i a (take k items) (drop (k + 1) items) n (rw split at t) b z

unmet_more : (m : List ℕ) (n : ℕ) → n < length m → sum_by unmet (take (n + 1) m) ≡ sum_by unmet (take n m) + unmet (slice_index m n)
unmet_more m n l = rw (take_more m n 0 l) (sum_by_push unmet (take n m) (slice_index m n))

-- where each number was looked at, no more are ready than wait for none
pub AreReady-few : (l : List Entry) (m ready : List ℕ) (n : ℕ) → length m ≡ n → AreReady l m ready n → work_left m ready ≤ n
AreReady-few l m ready n e q = let h : sum_by unmet (take n m) + length ready ≤ n = q.few in rw (take_all n m (omega arith)) at h

-- no number yet
pub AreReady-starts : (l : List Entry) (m ready : List ℕ) → ready ≡ [] → AreReady l m ready 0
AreReady-starts l m ready e = rw e (record { few = omega arith; near = λ i h. absurd h; queued = λ i b o z. absurd (omega arith) })

-- a number that is ready is put into the list
pub AreReady-push : (l : List Entry) (m ready ready' : List ℕ) (n : ℕ) → n < length l → length m ≡ length l → is_ready l m n ≡ true → ready' ≡ ready ++ n ∷ [] → AreReady l m ready n → AreReady l m ready' (n + 1)
AreReady-push l m ready ready' n b size t e q = rw e (record {
  few =
      let z : slice_index m n ≡ 0 = eqb-true (slice_index m n) 0 (and_parts (open_at (at l n)) (slice_index m n == 0) t).1 in
      let s : sum_by unmet (take (n + 1) m) ≡ sum_by unmet (take n m) + unmet (slice_index m n) = unmet_more m n (rw size b) in
      let u : unmet (slice_index m n) ≡ 0 = rw z refl in
      rw (length_push ready n) (omega (arith, q.few));
  near = λ i h. elim (Among-pop i n ready h) [ inl w ↦ rw w b | inr w ↦ q.near i w ];
  queued = λ i c o z. elim (below_or i n c) [ inl d ↦ Among-push i n ready (inr (q.queued i d o z)) | inr d ↦ Among-push i n ready (inl d) ];
})

-- one that isn't is passed by
pub AreReady-skip : (l : List Entry) (m ready : List ℕ) (n : ℕ) → n < length l → length m ≡ length l → is_ready l m n ≡ false → AreReady l m ready n → AreReady l m ready (n + 1)
AreReady-skip l m ready n b size f q = record {
  few = omega (arith, q.few, unmet_more m n (rw size b), unmet_at_most (slice_index m n));
  near = q.near;
  queued = λ i c o z. elim (below_or i n c) [ inl d ↦ q.queued i d o z | inr d ↦ absurd (bad i d o z) ];
} where
  ready_is : (j : ℕ) → open_at (at l j) ≡ true → slice_index m j ≡ 0 → is_ready l m j ≡ true
  ready_is j o z = rw (o, z) refl

  bad : (i : ℕ) → i ≡ n → open_at (at l i) ≡ true → slice_index m i ≡ 0 → ⊥
  bad i d o z = both_ways _ (rw (← d) at f) (ready_is i o z)

-- rows that come after the last aren't there
pub AreReady-rest : (l : List Entry) (m ready : List ℕ) (end k : ℕ) → length m ≡ length l → EndsAt l end → end + k ≤ length l → AreReady l m ready end → AreReady l m ready (end + k)
AreReady-rest l m ready end zero size ends b q = rw add-zero q
AreReady-rest l m ready end (suc k) size ends b q =
    subst (λ (n : ℕ). AreReady l m ready n) (more end k) (AreReady-skip l m ready (end + k) (omega arith) size (none (at l (end + k)) (ends (end + k) (omega arith))) (AreReady-rest l m ready end k size ends (omega arith) q)) where
      more : (end k : ℕ) → end + k + 1 ≡ end + suc k
      more end k = omega arith

      none : (e : Entry) → e ≡ Absent → (open_at e && slice_index m (end + k) == 0) ≡ false
      none e q = rw q refl

pub AreReady-all : (l : List Entry) (m ready : List ℕ) (end : ℕ) → length m ≡ length l → EndsAt l end → end ≤ length l → AreReady l m ready end → AreReady l m ready (length l)
AreReady-all l m ready end size ends b q =
    let whole : end + (length l - end) ≡ length l = omega arith in
    subst (λ (n : ℕ). AreReady l m ready n) whole (AreReady-rest l m ready end (length l - end) size ends (omega arith) q)
