-- The fourth sweep keeps what it says of its rows.
use Rattle.std.proofs.Common.{◌≡◌, ◌≢◌, ℕ, zero, suc, ◌+◌, ◌*◌, ◌-◌, ◌<◌, ◌≤◌, ◌⊎◌, Bool, true, false, not, ◌||◌, MatchBool, List, [], ◌∷◌, length, get_or, take, sum_by, refl, sym, ap, ◌∙◌, subst, inl, inr, add-zero, arith}
use Rattle.std.proofs.Math.ListN.{set}
use Rattle.std.proofs.lemmas.Bool.{cases_eq, both_ways}
use Rattle.std.proofs.lemmas.List.{length-set, take_more, take_all}
use Rattle.std.proofs.lemmas.List.Sums.{sum_by_push}
use Rattle.pin_matrix.specs.Followed.{followed}
use Rattle.pin_matrix.specs.declared.setup.Setup.{Setup}
use Rattle.pin_matrix.specs.declared.span.Span.{Span}
use Rattle.span_step.specs.declared.ages.Ages.{Ages}
use Rattle.span_step.specs.declared.ages.Ages.TheVariants.{Empty, Between}
use Rattle.span_step.specs.declared.stepped.Next.{Next}
use Rattle.span_step.specs.Laws.{AreUpTo, cap_of}
use Rattle.span_bounds.specs.declared.entry.Entry.{Entry}
use Rattle.span_bounds.specs.declared.entry.Entry.TheVariants.{Absent, Present}
use Rattle.span_bounds.specs.Tables.{LiesAt}
use Rattle.span_bounds.specs.Edges.{at, nexts_at, spot, EachNext, AllLie, IsClosedAt, Among, EndsAt}
use Rattle.span_bounds.specs.Reach.{IsHeldBy, AreHeld}
use Rattle.span_bounds.specs.Sums.{one_if, open_at, join_into}
use Rattle.span_bounds.specs.Queues.{IsMore, Queued, ComesNext}
use Rattle.span_bounds.specs.Take.{IsFresh, IsTaken, IsSettled, ages_or_none}
use Rattle.span_bounds.specs.Settle.{lies, is_single, one_wide, one_waiting, slack, ease_left, Eased, BegunAt, Settle, SettleRow, Begun, IsBegun, IsSettling, SettlesRow}
use Rattle.span_bounds.proofs.Coming.{EachNext-at, EachNext-more, below_or}
use Rattle.span_bounds.proofs.Reaching.{at_same, at_other}
use Rattle.span_bounds.proofs.Joins.{joined_at, lies_at_join, lies_still, closed_lies}
use Rattle.span_bounds.proofs.Takes.{all_still}
use Rattle.span_bounds.proofs.Filled.{capped}
use Rattle.span_bounds.proofs.Slack.{lies_from, table_slack, table_wide, table_wider, all_wide, more_wait, still_wait, fewer_wait, all_wait, length_front}
use Rattle.span_bounds.proofs.Capped.{IsFresh-join, reach_holds, left_capped}
use Rattle.span_bounds.specs.Numbers.{contexts_of}

waiting_more : (l : List Entry) (n : ℕ) → n < length l → sum_by one_waiting (take (n + 1) l) ≡ sum_by one_waiting (take n l) + one_waiting (at l n)
waiting_more l n i = rw (take_more l n Absent i) (sum_by_push one_waiting (take n l) (at l n))

-- before the sweep no row was looked at
pub Begun-starts : (u : Setup) (sp : Span) (l x : List Entry) (w : List ℕ) (t : IsTaken u sp l x) → w ≡ [] → Begun u sp t.reach l x w 0
Begun-starts u sp l x w t e = rw e (record { keeps = t.keeps; near = λ i h. absurd h; done = t.done; there = λ i m o. there i m o (at l i) refl; few = omega arith }) where
  there : (i : ℕ) → i < (contexts_of sp) → open_at (at l i) ≡ true → (e : Entry) → at l i ≡ e → LiesAt Empty (at x i)
  there i m o Absent q = absurd (both_ways _ (rw q refl) o)
  there i m o (Present c) q = t.keeps.rows i c m (sym (t.left.left i m o) ∙ q)

-- one row more
pub Begun-step : (u : Setup) (sp : Span) (l x x0 x' : List Entry) (w w' : List ℕ) (n : ℕ) (t : IsTaken u sp l x0) → n < (contexts_of sp) → Begun u sp t.reach l x w n → BegunAt (cap_of u sp) n l x x' w w' → Begun u sp t.reach l x' w' (n + 1)
Begun-step u sp l x x0 x' w w' n t b s h = on (open_at (at l n)) refl h where
  inside_l : n < length l
  inside_l = rw t.left.size b

  inside_x : n < length x
  inside_x = rw s.keeps.under.size b

  held_there : (e : Entry) → at l n ≡ e → open_at e ≡ true → IsHeldBy (Between (cap_of u sp) (cap_of u sp)) (at t.reach n)
  held_there Absent q o = absurd (both_ways _ refl o)
  held_there (Present c) q o = rw (sym (t.left.left n b (rw q o)) ∙ q) (λ y. o)

  one_more : (z : Bool) → open_at (at l n) ≡ z → sum_by one_waiting (take (n + 1) l) ≡ sum_by one_waiting (take n l) + one_if z
  one_more z q = waiting_more l n inside_l ∙ ap (λ y. sum_by one_waiting (take n l) + one_if y) q

  on : (z : Bool) → open_at (at l n) ≡ z → MatchBool z ((x' ≡ joined_at x n (Between (cap_of u sp) (cap_of u sp))) × MatchBool (is_single (at x' n)) (w' ≡ w) (IsMore n w w')) ((x' ≡ x) × (w' ≡ w)) → Begun u sp t.reach l x' w' (n + 1)
  on true o r = by (is_single (at x' n)) r.1 where
    done : (i : ℕ) (a : Ages) → i < (contexts_of sp) → open_at (at l i) ≡ false → at (joined_at x n (Between (cap_of u sp) (cap_of u sp))) i ≡ Present a → (i ≡ n) ⊎ (i ≢ n) → AllLie (followed sp) (at (joined_at x n (Between (cap_of u sp) (cap_of u sp)))) (nexts_at u sp i a)
    done i a m p q (inl e) = absurd (both_ways _ (rw e at p) o)
    done i a m p q (inr d) = all_still (followed sp) x n (Between (cap_of u sp) (cap_of u sp)) _ inside_x (s.done i a m p (rw (at_other x n i (Present (join_into (Between (cap_of u sp) (cap_of u sp)) (at x n))) d) at q))

    joined : ((i : ℕ) → Among i w' → i < (contexts_of sp)) → length w' ≤ length w + 1 → Begun u sp t.reach l x' w' (n + 1)
    joined near size = rw r.0 (record {
      keeps = IsFresh-join u sp t.reach x n (Between (cap_of u sp) (cap_of u sp)) b s.keeps (λ f c. left_capped u sp l x0 t f c n b o) (held_there (at l n) refl o);
      near = near;
      done = λ i a m p q. done i a m p q (cases_eq i n);
      there = λ i m p. lies_still x n (Between (cap_of u sp) (cap_of u sp)) Empty i inside_x (s.there i m p);
      few = omega (arith, s.few, one_more true o, size);
    })

    by : (y : Bool) → MatchBool y (w' ≡ w) (IsMore n w w') → Begun u sp t.reach l x' w' (n + 1)
    by true e = let z : length w' ≡ length w = ap length e in joined (λ i k. s.near i (rw e at k)) (omega (arith, z))
    by false m = joined (λ i k. elim (m.of_these i k) [ inl e ↦ rw e b | inr h ↦ s.near i h ]) (omega (arith, m.size))
  on false o r = rw (r.0, r.1) (record {
    keeps = s.keeps;
    near = s.near;
    done = s.done;
    there = s.there;
    few = omega (arith, s.few, one_more false o);
  })

-- rows that come after the last aren't there
Begun-rest : (u : Setup) (sp : Span) (l x x0 : List Entry) (w : List ℕ) (end k : ℕ) (t : IsTaken u sp l x0) → EndsAt l end → end + k ≤ contexts_of sp → Begun u sp t.reach l x w end → Begun u sp t.reach l x w (end + k)
Begun-rest u sp l x x0 w end zero t ends b s = rw add-zero s
Begun-rest u sp l x x0 w end (suc k) t ends b s =
    subst (λ (n : ℕ). Begun u sp t.reach l x w n) (more end k) (Begun-step u sp l x x0 x w w (end + k) t (omega arith) (Begun-rest u sp l x x0 w end k t ends (omega arith) s) (none (at l (end + k)) (ends (end + k) (omega arith)))) where
      more : (end k : ℕ) → end + k + 1 ≡ end + suc k
      more end k = omega arith

      none : (e : Entry) → e ≡ Absent → MatchBool (open_at e)
          ((x ≡ set x (end + k) (Present (join_into (Between (cap_of u sp) (cap_of u sp)) (at x (end + k))))) × MatchBool (is_single (at x (end + k))) (w ≡ w) (IsMore (end + k) w w))
          ((x ≡ x) × (w ≡ w))
      none e q = rw q (refl, refl)

pub Begun-all : (u : Setup) (sp : Span) (l x x0 : List Entry) (w : List ℕ) (end : ℕ) (t : IsTaken u sp l x0) → end ≤ length l → EndsAt l end → Begun u sp t.reach l x w end → Begun u sp t.reach l x w (contexts_of sp)
Begun-all u sp l x x0 w end t b ends s =
    let size : length l ≡ contexts_of sp = t.left.size in
    let whole : end + (contexts_of sp - end) ≡ contexts_of sp = omega arith in
    subst (λ (n : ℕ). Begun u sp t.reach l x w n) whole (Begun-rest u sp l x x0 w end (contexts_of sp - end) t ends (omega arith) s)

-- each row was looked at: those that are left wait, in order
pub Begun-ends : (u : Setup) (sp : Span) (l x x0 : List Entry) (w : List ℕ) (rest : ℕ) (t : IsTaken u sp l x0) → rest ≡ 0 → Begun u sp t.reach l x w (contexts_of sp) → IsSettling u sp l x w rest
Begun-ends u sp l x x0 w rest t e s = record {
  reach = t.reach;
  reached = t.reached;
  settle = record {
    keeps = s.keeps;
    size = t.left.size;
    near = s.near;
    queued = λ i m k o. absurd (omega (arith, e, k));
    done = s.done;
    there = s.there;
    few = let all : take (contexts_of sp) l ≡ l = take_all (contexts_of sp) l (rw t.left.size (omega arith)) in let f : length w ≤ sum_by one_waiting l = rw all at s.few in omega (arith, f);
  };
}

-- a number is next
pub IsSettling-next : (u : Setup) (sp : Span) (l x : List Entry) (q q' : Queued) (i : ℕ) → q.end ≡ contexts_of sp → ComesNext i q q' → IsSettling u sp l x q.numbers q.rest → IsSettling u sp l x (i ∷ q'.numbers) q'.rest
IsSettling-next u sp l x q q' i z (inl e) t = record {
  reach = t.reach;
  reached = t.reached;
  settle = record {
    keeps = s.keeps;
    size = s.size;
    near = λ j h. s.near j (e.0.all j h);
    queued = λ j c k o. e.0.of_these j (s.queued j c (rw e.1 at k) o);
    done = s.done;
    there = s.there;
    few = omega (arith, s.few, e.0.size);
  };
} where
  s : Settle u sp t.reach l x q.numbers q.rest
  s = t.settle
IsSettling-next u sp l x q q' i z (inr e) t = record {
  reach = t.reach;
  reached = t.reached;
  settle = record {
    keeps = s.keeps;
    size = s.size;
    near = λ j h. near j h;
    queued = λ j c k o. elim (below_or j q.rest (rw e.1.1 at k)) [ inl d ↦ absurd (none j (s.queued j c d o)) | inr d ↦ inl (d ∙ sym e.1.0.0) ];
    done = s.done;
    there = s.there;
    few = let none : length q'.numbers ≡ 0 = ap length e.0.1 in omega (arith, none);
  };
} where
  s : Settle u sp t.reach l x q.numbers q.rest
  s = t.settle

  none : (j : ℕ) → Among j q.numbers → ⊥
  none j h = let k : Among j [] = rw e.0.0 at h in k

  near : (j : ℕ) → Among j (i ∷ q'.numbers) → j < (contexts_of sp)
  near j (inl d) = rw (d, ← z) e.1.0.1
  near j (inr h) = let k : Among j [] = rw e.0.1 at h in absurd k

-- a number that doesn't wait is passed by
pub IsSettling-skip : (u : Setup) (sp : Span) (l x : List Entry) (w : List ℕ) (rest i : ℕ) → open_at (at l i) ≡ false → IsSettling u sp l x (i ∷ w) rest → IsSettling u sp l x w rest
IsSettling-skip u sp l x w rest i q t = record {
  reach = t.reach;
  reached = t.reached;
  settle = record {
    keeps = s.keeps;
    size = s.size;
    near = λ j h. s.near j (inr h);
    queued = λ j c k o. elim (s.queued j c k o) [ inl e ↦ absurd (both_ways _ (rw (← e) at q) o) | inr h ↦ h ];
    done = s.done;
    there = s.there;
    few = omega (arith, s.few);
  };
} where
  s : Settle u sp t.reach l x (i ∷ w) rest
  s = t.settle

-- the row of a number begins to be looked at
pub SettlesRow-begins : (u : Setup) (sp : Span) (l l' x : List Entry) (w : List ℕ) (rest i : ℕ) (a : Ages) → i < (contexts_of sp) → open_at (at l i) ≡ true → l' ≡ set l i Absent → at x i ≡ Present a → IsSettling u sp l x (i ∷ w) rest → SettlesRow u sp l' x w rest i a []
SettlesRow-begins u sp l l' x w rest i a b o e own t = rw e (record {
  reach = t.reach;
  reached = t.reached;
  row = record {
    keeps = s.keeps;
    size = length-set l i Absent ∙ s.size;
    near = λ j h. s.near j (inr h);
    queued = λ j c k p. queued j c k p (cases_eq j i);
    finished = λ j c m p d q. s.done j c m (rw (at_other l i j Absent d) at p) q;
    own = inl own;
    held = tt;
    needed = λ f c. rw own at (s.keeps.under.least f c i b);
    reached = rw own at (s.keeps.under.within i b);
    there = λ j m p. there j m p (cases_eq j i);
    few = omega (arith, s.few, fewer_wait l i inside o);
  };
}) where
  s : Settle u sp t.reach l x (i ∷ w) rest
  s = t.settle

  inside : i < length l
  inside = rw s.size b

  there : (j : ℕ) → j < (contexts_of sp) → open_at (at (set l i Absent) j) ≡ true → (j ≡ i) ⊎ (j ≢ i) → LiesAt Empty (at x j)
  there j c p (inl d) = absurd (both_ways _ (rw (d, at_same l i Absent inside) refl) p)
  there j c p (inr d) = s.there j c (rw (at_other l i j Absent d) at p)

  queued : (j : ℕ) → j < (contexts_of sp) → j < rest → open_at (at (set l i Absent) j) ≡ true → (j ≡ i) ⊎ (j ≢ i) → Among j w
  queued j c k p (inl d) = absurd (both_ways _ (rw (d, at_same l i Absent inside) refl) p)
  queued j c k p (inr d) = elim (s.queued j c k (rw (at_other l i j Absent d) at p)) [ inl e ↦ absurd (d e) | inr h ↦ h ]

-- a row that waits has these ages
pub waiting_ages : (u : Setup) (sp : Span) (l x : List Entry) (w : List ℕ) (rest i : ℕ) (a : Ages) → i < (contexts_of sp) → IsSettling u sp l x w rest → open_at (at l i) ≡ true → a ≡ ages_or_none (at x i) → at x i ≡ Present a
waiting_ages u sp l x w rest i a b t o e = by (at x i) (t.settle.there i b o) ∙ ap Present (sym e) where
  by : (g : Entry) → LiesAt Empty g → g ≡ Present (ages_or_none g)
  by Absent k = absurd k
  by (Present c) k = refl

-- rows are looked at in order, as the code has it
pub IsBegun-step : (u : Setup) (sp : Span) (l x x' : List Entry) (w w' : List ℕ) (n : ℕ) → n < (contexts_of sp) → IsBegun u sp l x w n → BegunAt (cap_of u sp) n l x x' w w' → IsBegun u sp l x' w' (n + 1)
IsBegun-step u sp l x x' w w' n b t h = record { table = t.table; taken = t.taken; begun = Begun-step u sp l x t.table x' w w' n t.taken b t.begun h }

pub begun_room : (u : Setup) (sp : Span) (l x : List Entry) (w : List ℕ) (n : ℕ) → IsBegun u sp l x w n → length w ≤ n
begun_room u sp l x w n t = omega (arith, t.begun.few, all_wait (take n l), length_front n l)

-- one next more, as the code has it
pub SettlesRow-step : (u : Setup) (sp : Span) (l l' x x' : List Entry) (w w' : List ℕ) (rest i : ℕ) (a : Ages) (items : List Next) (k : ℕ) (n : Next) → items ≡ nexts_at u sp i a → k < length items → n ≡ get_or items k n → spot (followed sp) n < (contexts_of sp) → i < (contexts_of sp) →
    SettlesRow u sp l x w rest i a (take k items) → Eased (followed sp) n x x' l l' w w' → SettlesRow u sp l' x' w' rest i a (take (k + 1) items)
SettlesRow-step u sp l l' x x' w w' rest i a items k n ie lk q b bi t r = on (lies n.ages (at x p)) refl r where
  p : ℕ
  p = spot (followed sp) n

  s : SettleRow u sp t.reach l x w rest i a (take k items)
  s = t.row

  inside_x : spot (followed sp) n < length x
  inside_x = rw s.keeps.under.size b

  inside_l : spot (followed sp) n < length l
  inside_l = rw s.size b

  needed : (f : ℕ → Entry) → IsClosedAt u sp f → LiesAt n.ages (f (spot (followed sp) n))
  needed f c = subst (λ y. LiesAt y.ages (f (spot (followed sp) y))) (sym q) (EachNext-at (λ y. LiesAt y.ages (f (spot (followed sp) y))) items k n (subst (AllLie (followed sp) f) (sym ie) (closed_lies u sp f i a bi c (s.needed f c))) lk)

  held_there : IsHeldBy n.ages (at t.reach (spot (followed sp) n))
  held_there = subst (λ y. IsHeldBy y.ages (at t.reach (spot (followed sp) y))) (sym q) (EachNext-at (λ y. IsHeldBy y.ages (at t.reach (spot (followed sp) y))) items k n (subst (AreHeld (followed sp) (at t.reach)) (sym ie) (reach_holds u sp t.reach i a t.reached bi s.reached)) lk)

  x1 : List Entry
  x1 = joined_at x (spot (followed sp) n) n.ages

  keeps1 : IsFresh u sp t.reach (joined_at x (spot (followed sp) n) n.ages)
  keeps1 = IsFresh-join u sp t.reach x (spot (followed sp) n) n.ages b s.keeps needed held_there

  held1 : AllLie (followed sp) (at (joined_at x (spot (followed sp) n) n.ages)) (take (k + 1) items)
  held1 = EachNext-more (λ y. LiesAt y.ages (at (joined_at x (spot (followed sp) n) n.ages) (spot (followed sp) y))) items k n lk (all_still (followed sp) x (spot (followed sp) n) n.ages _ inside_x s.held) (subst (λ y. LiesAt y.ages (at (joined_at x (spot (followed sp) n) n.ages) (spot (followed sp) y))) q (lies_at_join x (spot (followed sp) n) n.ages inside_x))

  other_row : (j : ℕ) (c : Ages) → j ≢ spot (followed sp) n → at (joined_at x (spot (followed sp) n) n.ages) j ≡ Present c → at x j ≡ Present c
  other_row j c d e = rw (at_other x (spot (followed sp) n) j (Present (join_into n.ages (at x (spot (followed sp) n)))) d) at e

  -- once the row of the next waits
  joined : (m : List Entry) (v : List ℕ) → length m ≡ (contexts_of sp) → open_at (at m (spot (followed sp) n)) ≡ true → ((j : ℕ) → j ≢ spot (followed sp) n → at m j ≡ at l j) → ((j : ℕ) → Among j v → j < (contexts_of sp)) → ((j : ℕ) → j < (contexts_of sp) → j < rest → open_at (at m j) ≡ true → Among j v) → length v ≤ sum_by one_waiting m + sum_by one_wide (joined_at x (spot (followed sp) n) n.ages) + 1 → SettlesRow u sp m (joined_at x (spot (followed sp) n) n.ages) v rest i a (take (k + 1) items)
  joined m v size o same near queued few = record {
    reach = t.reach;
    reached = t.reached;
    row = record {
      keeps = keeps1;
      size = size;
      near = near;
      queued = queued;
      finished = λ j c e f d g. finished j c e f d g (cases_eq j (spot (followed sp) n));
      own = own (cases_eq i (spot (followed sp) n)) s.own;
      held = held1;
      needed = s.needed;
      reached = s.reached;
      there = λ j m o. there j m o (cases_eq j (spot (followed sp) n));
      few = few;
    };
  } where
    there : (j : ℕ) → j < (contexts_of sp) → open_at (at m j) ≡ true → (j ≡ spot (followed sp) n) ⊎ (j ≢ spot (followed sp) n) → LiesAt Empty (at (joined_at x (spot (followed sp) n) n.ages) j)
    there j c e (inl h) = rw (h, at_same x (spot (followed sp) n) (Present (join_into n.ages (at x (spot (followed sp) n)))) inside_x) tt
    there j c e (inr h) = lies_still x (spot (followed sp) n) n.ages Empty j inside_x (s.there j c (rw (same j h) at e))

    finished : (j : ℕ) (c : Ages) → j < (contexts_of sp) → open_at (at m j) ≡ false → (j ≡ i → ⊥) → at (joined_at x (spot (followed sp) n) n.ages) j ≡ Present c → (j ≡ spot (followed sp) n) ⊎ (j ≢ spot (followed sp) n) → AllLie (followed sp) (at (joined_at x (spot (followed sp) n) n.ages)) (nexts_at u sp j c)
    finished j c e f d g (inl h) = absurd (both_ways _ (rw h at f) o)
    finished j c e f d g (inr h) = all_still (followed sp) x (spot (followed sp) n) n.ages _ inside_x (s.finished j c e (rw (same j h) at f) d (other_row j c h g))

    own : (i ≡ spot (followed sp) n) ⊎ (i ≢ spot (followed sp) n) → (at x i ≡ Present a) ⊎ (open_at (at l i) ≡ true) → (at (joined_at x (spot (followed sp) n) n.ages) i ≡ Present a) ⊎ (open_at (at m i) ≡ true)
    own (inl h) y = inr (rw h o)
    own (inr h) (inl y) = inl (at_other x (spot (followed sp) n) i (Present (join_into n.ages (at x (spot (followed sp) n)))) h ∙ y)
    own (inr h) (inr y) = inr (rw (same i h) y)

  on : (z : Bool) → lies n.ages (at x (spot (followed sp) n)) ≡ z → MatchBool z ((x' ≡ x) × ((l' ≡ l) × (w' ≡ w))) ((x' ≡ joined_at x (spot (followed sp) n) n.ages) × MatchBool (is_single (at x (spot (followed sp) n)) || not (open_at (at l (spot (followed sp) n)))) ((l' ≡ set l (spot (followed sp) n) (Present (Between 0 0))) × IsMore (spot (followed sp) n) w w') ((l' ≡ l) × (w' ≡ w))) → SettlesRow u sp l' x' w' rest i a (take (k + 1) items)
  on true z v = rw (v.0, v.1.0, v.1.1) (record {
    reach = t.reach;
    reached = t.reached;
    row = record {
      keeps = s.keeps;
      size = s.size;
      near = s.near;
      queued = s.queued;
      finished = s.finished;
      own = s.own;
      held = EachNext-more (λ y. LiesAt y.ages (at x (spot (followed sp) y))) items k n lk s.held (subst (λ y. LiesAt y.ages (at x (spot (followed sp) y))) q (lies_from n.ages (at x (spot (followed sp) n)) z));
      needed = s.needed;
      reached = s.reached;
      there = s.there;
      few = s.few;
    };
  })
  on false z v = by (is_single (at x (spot (followed sp) n)) || not (open_at (at l (spot (followed sp) n)))) refl v.1 where
    kept : sum_by one_wide x ≤ sum_by one_wide (joined_at x (spot (followed sp) n) n.ages)
    kept = table_wide x (spot (followed sp) n) n.ages inside_x

    one_more : (p o : Bool) → is_single (at x (spot (followed sp) n)) ≡ p → open_at (at l (spot (followed sp) n)) ≡ o → (p || not o) ≡ true → sum_by one_waiting l + sum_by one_wide x + 1 ≤ sum_by one_waiting (set l (spot (followed sp) n) (Present (Between 0 0))) + sum_by one_wide (joined_at x (spot (followed sp) n) n.ages)
    one_more true o e f h = omega (arith, table_wider x (spot (followed sp) n) n.ages inside_x e z, still_wait l (spot (followed sp) n) inside_l)
    one_more false true e f h = absurd (both_ways _ refl h)
    one_more false false e f h = omega (arith, kept, more_wait l (spot (followed sp) n) inside_l f)

    waits : (p o : Bool) → (p || not o) ≡ false → o ≡ true
    waits true o h = absurd (both_ways _ h refl)
    waits false true h = refl
    waits false false h = absurd (both_ways _ h refl)

    by : (y : Bool) → (is_single (at x (spot (followed sp) n)) || not (open_at (at l (spot (followed sp) n)))) ≡ y → MatchBool y ((l' ≡ set l (spot (followed sp) n) (Present (Between 0 0))) × IsMore (spot (followed sp) n) w w') ((l' ≡ l) × (w' ≡ w)) → SettlesRow u sp l' x' w' rest i a (take (k + 1) items)
    by false y c = rw (v.0, c.0, c.1) (joined l w s.size (waits _ _ y) (λ j d. refl) s.near s.queued (omega (arith, s.few, kept)))
    by true y c = rw (v.0, c.0) (joined (set l (spot (followed sp) n) (Present (Between 0 0))) w'
        (length-set l (spot (followed sp) n) (Present (Between 0 0)) ∙ s.size)
        (rw (at_same l (spot (followed sp) n) (Present (Between 0 0)) inside_l) refl)
        (λ j d. at_other l (spot (followed sp) n) j (Present (Between 0 0)) d)
        (λ j h. elim (c.1.of_these j h) [ inl e ↦ rw e b | inr m ↦ s.near j m ])
        (λ j m f o. queued j m f o (cases_eq j (spot (followed sp) n)))
        (omega (arith, s.few, one_more _ _ refl refl y, c.1.size))) where
          queued : (j : ℕ) → j < (contexts_of sp) → j < rest → open_at (at (set l (spot (followed sp) n) (Present (Between 0 0))) j) ≡ true → (j ≡ spot (followed sp) n) ⊎ (j ≢ spot (followed sp) n) → Among j w'
          queued j m f o (inl e) = c.1.all j (inl e)
          queued j m f o (inr d) = c.1.all j (inr (s.queued j m f (rw (at_other l (spot (followed sp) n) j (Present (Between 0 0)) d) at o)))

-- all nexts are done
pub SettlesRow-ends : (u : Setup) (sp : Span) (l x : List Entry) (w : List ℕ) (rest i : ℕ) (a : Ages) → SettlesRow u sp l x w rest i a (nexts_at u sp i a) → IsSettling u sp l x w rest
SettlesRow-ends u sp l x w rest i a t = record {
  reach = t.reach;
  reached = t.reached;
  settle = record {
    keeps = s.keeps;
    size = s.size;
    near = s.near;
    queued = s.queued;
    done = λ j c m o e. done j c m o e (cases_eq j i) s.own;
    there = s.there;
    few = s.few;
  };
} where
  s : SettleRow u sp t.reach l x w rest i a (nexts_at u sp i a)
  s = t.row

  done : (j : ℕ) (c : Ages) → j < (contexts_of sp) → open_at (at l j) ≡ false → at x j ≡ Present c → (j ≡ i) ⊎ (j ≢ i) → (at x i ≡ Present a) ⊎ (open_at (at l i) ≡ true) → AllLie (followed sp) (at x) (nexts_at u sp j c)
  done j c m o e (inr d) y = s.finished j c m o d e
  done j c m o e (inl d) (inr y) = absurd (both_ways _ (rw d at o) y)
  done j c m o e (inl d) (inl y) =
      let e' : at x i ≡ Present c = rw d at e in
      let same : a ≡ c = cc in rw (d, ← same) s.held

-- room for one more while a row is looked at
pub row_room : (u : Setup) (sp : Span) (l x : List Entry) (w : List ℕ) (rest i : ℕ) (a : Ages) (done : List Next) → SettlesRow u sp l x w rest i a done → length w ≤ 2 * contexts_of sp + 1
row_room u sp l x w rest i a done t = omega (arith, t.row.few, all_wait l, t.row.size, all_wide x, t.row.keeps.under.size)

-- an eased next leaves no more to do
pub work_eased : (u : Setup) (sp : Span) (i : ℕ) (a : Ages) (items : List Next) (k : ℕ) (n : Next) (x x' l l' : List Entry) (w w' : List ℕ) → items ≡ nexts_at u sp i a → k < length items → n ≡ get_or items k n → spot (followed sp) n < length x → Eased (followed sp) n x x' l l' w w' → ease_left (cap_of u sp) x' w' ≤ ease_left (cap_of u sp) x w
work_eased u sp i a items k n x x' l l' w w' ie lk q b r = on (lies n.ages (at x (spot (followed sp) n))) refl r where
  up : AreUpTo (cap_of u sp) n.ages
  up = subst (λ y. AreUpTo (cap_of u sp) y.ages) (sym q) (EachNext-at (λ y. AreUpTo (cap_of u sp) y.ages) items k n (subst (EachNext (λ m. AreUpTo (cap_of u sp) m.ages)) (sym ie) (capped u sp i a)) lk)

  on : (z : Bool) → lies n.ages (at x (spot (followed sp) n)) ≡ z → MatchBool z ((x' ≡ x) × ((l' ≡ l) × (w' ≡ w))) ((x' ≡ joined_at x (spot (followed sp) n) n.ages) × MatchBool (is_single (at x (spot (followed sp) n)) || not (open_at (at l (spot (followed sp) n)))) ((l' ≡ set l (spot (followed sp) n) (Present (Between 0 0))) × IsMore (spot (followed sp) n) w w') ((l' ≡ l) × (w' ≡ w))) → ease_left (cap_of u sp) x' w' ≤ ease_left (cap_of u sp) x w
  on true z v = rw (v.0, v.1.1) (omega arith)
  on false z v = by (is_single (at x (spot (followed sp) n)) || not (open_at (at l (spot (followed sp) n)))) v.1 where
    less : sum_by (slack (cap_of u sp)) (joined_at x (spot (followed sp) n) n.ages) + 1 ≤ sum_by (slack (cap_of u sp)) x
    less = table_slack (cap_of u sp) x (spot (followed sp) n) n.ages b up z

    by : (y : Bool) → MatchBool y ((l' ≡ set l (spot (followed sp) n) (Present (Between 0 0))) × IsMore (spot (followed sp) n) w w') ((l' ≡ l) × (w' ≡ w)) → ease_left (cap_of u sp) x' w' ≤ ease_left (cap_of u sp) x w
    by true c = rw v.0 (omega (arith, less, c.1.size))
    by false c = rw (v.0, c.1) (omega (arith, less))

-- nothing waits any more: no row is left
pub IsSettled-ends : (u : Setup) (sp : Span) (l x : List Entry) (w : List ℕ) (rest : ℕ) → (w ≡ []) × ((contexts_of sp) ≤ rest) → IsSettling u sp l x w rest → IsSettled u sp l x
IsSettled-ends u sp l x w rest none t = record {
  taken = record {
    reach = t.reach;
    reached = t.reached;
    keeps = s.keeps;
    left = record { size = s.size; left = λ i m o. absurd (nobody i m o) };
    stays = λ i b m o. absurd (nobody i m o);
    blocked = λ i m o. absurd (nobody i m o);
    done = s.done;
  };
  bounded = λ i m o. absurd (nobody i m o);
} where
  s : Settle u sp t.reach l x w rest
  s = t.settle

  nobody : (i : ℕ) → i < (contexts_of sp) → open_at (at l i) ≡ true → ⊥
  nobody i m o = let h : Among i [] = rw none.0 at (s.queued i m (omega (arith, m, none.1)) o) in h
