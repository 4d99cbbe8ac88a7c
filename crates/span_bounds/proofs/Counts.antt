-- The second sweep keeps what it says of its table and numbers.
use Rattle.std.proofs.Common.{◌≡◌, ◌≢◌, ℕ, zero, suc, ◌+◌, ◌*◌, ◌-◌, ◌^◌, ◌<◌, ◌≤◌, ◌==◌, ◌⊎◌, Bool, true, false, ◌&&◌, if◌then◌else◌, MatchBool, List, [], ◌∷◌, ◌++◌, length, get_or, take, replicate, slice_index, refl, sym, ap, ◌∙◌, subst, inl, inr, add-one, add-zero, arith}
use Rattle.std.proofs.Math.ListN.{set}
use Rattle.std.proofs.lemmas.Bool.Decides.{nat_tests}
use Rattle.std.proofs.lemmas.List.{length-set, get_or-set_same, get_or-set_other, take_more, length-replicate, get_or-replicate}
use Rattle.std.proofs.lemmas.Bool.{and_parts, cases_eq, both_ways}
use Rattle.pin_matrix.specs.Followed.{followed}
use Rattle.pin_matrix.specs.declared.setup.Setup.{Setup}
use Rattle.pin_matrix.specs.declared.span.Span.{Span}
use Rattle.span_step.specs.declared.ages.Ages.{Ages}
use Rattle.span_step.specs.declared.ages.Ages.TheVariants.{Empty}
use Rattle.span_step.specs.declared.stepped.Next.{Next}
use Rattle.span_step.specs.Contexts.{is_open}
use Rattle.span_bounds.specs.declared.entry.Entry.{Entry}
use Rattle.span_bounds.specs.declared.entry.Entry.TheVariants.{Absent, Present}
use Rattle.span_bounds.specs.Tables.{LiesAt}
use Rattle.span_bounds.specs.Edges.{at, nexts_at, spot, EachNext, EndsAt, IsClosedAt}
use Rattle.span_bounds.specs.Reach.{IsHeldBy, AreHeld, IsReach}
use Rattle.span_bounds.specs.Sums.{total, passages, waits, one_if}
use Rattle.span_bounds.specs.Count.{LieBut, IsUnder, Count, Counting, Counted}
use Rattle.span_bounds.proofs.Coming.{EachNext-at, EachNext-more, EachNext-map, below_or}
use Rattle.span_bounds.proofs.Passages.{passages-take}
use Rattle.span_bounds.proofs.Joins.{joined_at, lies_at_join, lies_still, IsUnder-join, closed_lie_but}
use Rattle.span_bounds.specs.Numbers.{contexts_of}
use Rattle.pin_matrix.specs.declared.assume.Follow.{Follow}

pub passages-push : (far : Follow) (v : ℕ) (ns : List Next) (n : Next) → passages far v (ns ++ n ∷ []) ≡ passages far v ns + one_if (n.passes && spot far n == v)
unfolding passages
passages-push far v [] n = omega arith
passages-push far v (m ∷ ns) n = let h = passages-push far v ns n in omega arith

pub passages-nil : (far : Follow) (v : ℕ) → passages far v [] ≡ 0
unfolding passages
passages-nil far v = refl

pub one_more : (far : Follow) (v : ℕ) (n : Next) → n.passes ≡ true → one_if (n.passes && spot far n == v) ≡ one_if (spot far n == v)
one_more far v n p = rw p refl

no_more : (far : Follow) (v : ℕ) (n : Next) → n.passes ≡ false → one_if (n.passes && spot far n == v) ≡ 0
no_more far v n p = rw p refl

-- LieBut at one place
but_at : (far : Follow) (o : Bool) (f : ℕ → Entry) (ns : List Next) (k : ℕ) (d : Next) → LieBut far o f ns → k < length ns → (o && (get_or ns k d).passes) ≡ false → LiesAt (get_or ns k d).ages (f (spot far (get_or ns k d)))
but_at far o f ns k d h l = EachNext-at (λ n. (o && n.passes) ≡ false → LiesAt n.ages (f (spot far n))) ns k d h l

pub but_still : (far : Follow) (o : Bool) (x : List Entry) (p : ℕ) (a : Ages) (ns : List Next) → p < length x → LieBut far o (at x) ns → LieBut far o (at (joined_at x p a)) ns
but_still far o x p a ns l h = EachNext-map (λ n. (o && n.passes) ≡ false → LiesAt n.ages (at x (spot far n))) (λ n. (o && n.passes) ≡ false → LiesAt n.ages (at (joined_at x p a) (spot far n))) (λ n k q. lies_still x p a n.ages (spot far n) l (k q)) ns h

-- the number at p is one more
raised_number : (m : List ℕ) (p v : ℕ) → p < length m → slice_index (set m p (slice_index m p + 1)) v ≡ slice_index m v + one_if (p == v)
raised_number m p v l = on (cases_eq v p) where
  on : (v ≡ p) ⊎ (v ≢ p) → slice_index (set m p (slice_index m p + 1)) v ≡ slice_index m v + one_if (p == v)
  on (inl e) = let t : (p == v) ≡ true = grind (arith, nat_tests) in rw (t, e, get_or-set_same m p (slice_index m p + 1) 0 l) refl
  on (inr n) = let t : (p == v) ≡ false = grind (arith, nat_tests) in rw (t, get_or-set_other m p v (slice_index m p + 1) 0 n) (omega arith)

-- a step of the loop, as the code has it
pub Counting-step : (u : Setup) (sp : Span) (g x x' : List Entry) (m m' : List ℕ) (i : ℕ) (a : Ages) (items : List Next) (k : ℕ) (n : Next) → IsReach u sp g → i < (contexts_of sp) → at g i ≡ Present a → items ≡ nexts_at u sp i a → k < length items → n ≡ get_or items k n → spot (followed sp) n < (contexts_of sp) →
    Counting u sp g x m i a (take k items) → Counted (followed sp) (is_open a) n x x' m m' → Counting u sp g x' m' i a (take (k + 1) items)
Counting-step u sp g x x' m m' i a items k n reach l entry e lk q near c r = on (is_open a && n.passes) refl r where
  more : take (k + 1) items ≡ take k items ++ n ∷ []
  more = take_more items k n lk ∙ ap (λ y. take k items ++ y ∷ []) (sym q)

  passed : (v : ℕ) → passages (followed sp) v (take (k + 1) items) ≡ passages (followed sp) v (take k items) + one_if (n.passes && spot (followed sp) n == v)
  passed v = rw more (passages-push (followed sp) v (take k items) n)

  inside_m : spot (followed sp) n < length m
  inside_m = rw c.numbers near

  inside_x : spot (followed sp) n < length x
  inside_x = rw c.under.size near

  held : AreHeld (followed sp) (at g) (nexts_at u sp i a)
  held = elim (reach.sweep.steps i a l entry) [ inl h ↦ absurd h | inr h ↦ h ]

  here : (P : Next → Type 0) → EachNext P (nexts_at u sp i a) → P n
  here P h = let h' : EachNext P items = rw e h in let p : P (get_or items k n) = EachNext-at P items k n h' lk in subst P (sym q) p

  lies : (f : ℕ → Entry) → IsClosedAt u sp f → (is_open a && n.passes) ≡ false → LiesAt n.ages (f (spot (followed sp) n))
  lies f s z = here (λ y. (is_open a && y.passes) ≡ false → LiesAt y.ages (f (spot (followed sp) y))) (closed_lie_but u sp f i a l s (needed f s)) z where
    needed : (f : ℕ → Entry) → IsClosedAt u sp f → IsHeldBy a (f i)
    needed f s = rw entry at (reach.sweep.least f s i l)

  open_count : (v : ℕ) → is_open a ≡ true → n.passes ≡ true → (if is_open a then passages (followed sp) v (take (k + 1) items) else 0) ≡ (if is_open a then passages (followed sp) v (take k items) else 0) + one_if (spot (followed sp) n == v)
  open_count v o p = rw (o, more, passages-push (followed sp) v (take k items) n, one_more (followed sp) v n p) refl

  shut_count : (v : ℕ) (o : Bool) → (o && n.passes) ≡ false → (if o then passages (followed sp) v (take (k + 1) items) else 0) ≡ (if o then passages (followed sp) v (take k items) else 0)
  shut_count v true z = rw (more, passages-push (followed sp) v (take k items) n, no_more (followed sp) v n z) (omega arith)
  shut_count v false z = refl

  on : (z : Bool) → (is_open a && n.passes) ≡ z → MatchBool z ((x' ≡ x) × (m' ≡ set m (spot (followed sp) n) (slice_index m (spot (followed sp) n) + 1))) ((x' ≡ joined_at x (spot (followed sp) n) n.ages) × (m' ≡ m)) → Counting u sp g x' m' i a (take (k + 1) items)
  on true z w = rw (w.0, w.1) (record {
    under = c.under;
    numbers = length-set m (spot (followed sp) n) (slice_index m (spot (followed sp) n) + 1) ∙ c.numbers;
    small = λ v. rw (raised_number m (spot (followed sp) n) v inside_m) (small v (c.small v) (passed v) (one_more (followed sp) v n (and_parts (is_open a) n.passes z).1));
    count = λ v b. raised_number m (spot (followed sp) n) v inside_m ∙ counted v (c.count v b);
    rows = c.rows;
    row = c.row;
    fresh = c.fresh;
    done_fresh = (EachNext-more (λ y. (is_open a && y.passes) ≡ false → LiesAt y.ages (at x (spot (followed sp) y))) items k n lk c.done_fresh (subst (λ y. (is_open a && y.passes) ≡ false → LiesAt y.ages (at x (spot (followed sp) y))) q (λ f. absurd (both_ways _ f z))));
  }) where
    small : (v : ℕ) → slice_index m v ≤ 8 * i + passages (followed sp) v (take k items) → passages (followed sp) v (take (k + 1) items) ≡ passages (followed sp) v (take k items) + one_if (n.passes && spot (followed sp) n == v) → one_if (n.passes && spot (followed sp) n == v) ≡ one_if (spot (followed sp) n == v) → slice_index m v + one_if (spot (followed sp) n == v) ≤ 8 * i + passages (followed sp) v (take (k + 1) items)
    small v h e o = omega arith

    counted : (v : ℕ) → slice_index m v ≡ total i (waits u sp (at g) v) + (if is_open a then passages (followed sp) v (take k items) else 0) → slice_index m v + one_if (spot (followed sp) n == v) ≡ total i (waits u sp (at g) v) + (if is_open a then passages (followed sp) v (take (k + 1) items) else 0)
    counted v h = rw (h, open_count v (and_parts (is_open a) n.passes z).0 (and_parts (is_open a) n.passes z).1) (omega arith)
  on false z w = rw (w.0, w.1) (record {
    under = IsUnder-join u sp g x (spot (followed sp) n) n.ages near c.under (λ f s. lies f s z) (here (λ y. IsHeldBy y.ages (at g (spot (followed sp) y))) held);
    numbers = c.numbers;
    small = λ v. omega (arith, c.small v, passed v);
    count = λ v b. rw (shut_count v (is_open a) z) (c.count v b);
    rows = λ j b s t. lies_still x (spot (followed sp) n) n.ages Empty j inside_x (c.rows j b s t);
    row = lies_still x (spot (followed sp) n) n.ages Empty i inside_x c.row;
    fresh = λ j b s t. but_still (followed sp) (is_open b) x (spot (followed sp) n) n.ages _ inside_x (c.fresh j b s t);
    done_fresh = EachNext-more (λ y. (is_open a && y.passes) ≡ false → LiesAt y.ages (at (joined_at x (spot (followed sp) n) n.ages) (spot (followed sp) y))) items k n lk
        (but_still (followed sp) (is_open a) x (spot (followed sp) n) n.ages _ inside_x c.done_fresh)
        (subst (λ y. (is_open a && y.passes) ≡ false → LiesAt y.ages (at (joined_at x (spot (followed sp) n) n.ages) (spot (followed sp) y))) q (λ f. lies_at_join x (spot (followed sp) n) n.ages inside_x));
  })

-- a row begins, with its own entry there
pub Counting-begins : (u : Setup) (sp : Span) (g x x' : List Entry) (m : List ℕ) (i : ℕ) (a : Ages) → IsReach u sp g → i < (contexts_of sp) → at g i ≡ Present a → x' ≡ joined_at x i Empty → Count u sp g x m i → Counting u sp g x' m i a []
Counting-begins u sp g x x' m i a reach l entry e c = rw e (record {
  under = IsUnder-join u sp g x i Empty l c.under needed (holds (at g i) entry);
  numbers = c.numbers;
  small = λ v. omega (arith, c.small v, passages-nil (followed sp) v);
  count = λ v b. c.count v b ∙ nothing v (is_open a);
  rows = λ j b s t. lies_still x i Empty Empty j inside (c.rows j b s t);
  row = lies_at_join x i Empty inside;
  fresh = λ j b s t. but_still (followed sp) (is_open b) x i Empty _ inside (c.fresh j b s t);
  done_fresh = tt;
}) where
  inside : i < length x
  inside = rw c.under.size l

  holds : (e : Entry) → e ≡ Present a → IsHeldBy Empty e
  holds e q = rw q (λ o. absurd (shut o)) where
    shut : false ≡ true → ⊥
    shut o = cc

  lies : (b : Ages) (e : Entry) → IsHeldBy b e → LiesAt Empty e
  lies b Absent h = h
  lies b (Present c) h = tt

  needed : (f : ℕ → Entry) → IsClosedAt u sp f → LiesAt Empty (f i)
  needed f s = lies a (f i) (rw entry at (reach.sweep.least f s i l))

  nothing : (v : ℕ) (o : Bool) → total i (waits u sp (at g) v) ≡ total i (waits u sp (at g) v) + (if o then passages (followed sp) v [] else 0)
  nothing v true = rw (passages-nil (followed sp) v) (omega arith)
  nothing v false = omega arith

total-more : (n : ℕ) (f : ℕ → ℕ) → total (n + 1) f ≡ total n f + f n
unfolding total
total-more n f = rw add-one refl

-- all nexts of a row are done
pub Counting-ends : (u : Setup) (sp : Span) (g x : List Entry) (m : List ℕ) (i : ℕ) (a : Ages) (ns : List Next) → at g i ≡ Present a → ns ≡ nexts_at u sp i a → ((v : ℕ) → passages (followed sp) v (nexts_at u sp i a) ≤ 8) → Counting u sp g x m i a ns → Count u sp g x m (i + 1)
Counting-ends u sp g x m i a ns entry e few c = record {
  under = c.under;
  numbers = c.numbers;
  small = λ v. omega (arith, c.small v, few v, ap (passages (followed sp) v) e);
  count = λ v b. c.count v b ∙ sym (total-more i (waits u sp (at g) v) ∙ ap (λ t. total i (waits u sp (at g) v) + t) (here v));
  rows = λ j b l q. elim (below_or j i l) [ inl s ↦ c.rows j b s q | inr s ↦ rw s c.row ];
  fresh = λ j b l q. fresh j b q (below_or j i l);
} where
  here : (v : ℕ) → waits u sp (at g) v i ≡ (if is_open a then passages (followed sp) v ns else 0)
  here v = rw (entry, e) refl

  fresh : (j : ℕ) (b : Ages) → at g j ≡ Present b → (j < i) ⊎ (j ≡ i) → LieBut (followed sp) (is_open b) (at x) (nexts_at u sp j b)
  fresh j b q (inl s) = c.fresh j b s q
  fresh j b q (inr s) = let q' : at g i ≡ Present b = rw s at q in let same : a ≡ b = cc in
      rw (s, ← same, ← e) c.done_fresh

-- a number without a row
pub Count-skips : (u : Setup) (sp : Span) (g x : List Entry) (m : List ℕ) (i : ℕ) → at g i ≡ Absent → Count u sp g x m i → Count u sp g x m (i + 1)
Count-skips u sp g x m i none c = record {
  under = c.under;
  numbers = c.numbers;
  small = λ v. omega (arith, c.small v);
  count = λ v b. c.count v b ∙ sym (total-more i (waits u sp (at g) v) ∙ (ap (λ t. total i (waits u sp (at g) v) + t) (here v) ∙ add-zero _));
  rows = λ j b l q. elim (below_or j i l) [ inl s ↦ c.rows j b s q | inr s ↦ absurd (clash none (rw s at q)) ];
  fresh = λ j b l q. elim (below_or j i l) [ inl s ↦ c.fresh j b s q | inr s ↦ absurd (clash none (rw s at q)) ];
} where
  here : (v : ℕ) → waits u sp (at g) v i ≡ 0
  here v = rw none refl

  clash : {e : Entry} {b : Ages} → e ≡ Absent → e ≡ Present b → ⊥
  clash p q = cc

-- numbers that come after the last row have none
Count-rest : (u : Setup) (sp : Span) (g x : List Entry) (m : List ℕ) (end k : ℕ) → EndsAt g end → Count u sp g x m end → Count u sp g x m (end + k)
Count-rest u sp g x m end zero ends c = rw add-zero c
Count-rest u sp g x m end (suc k) ends c = subst (λ (n : ℕ). Count u sp g x m n) (more end k) (Count-skips u sp g x m (end + k) (ends (end + k) (omega arith)) (Count-rest u sp g x m end k ends c)) where
  more : (end k : ℕ) → end + k + 1 ≡ end + suc k
  more end k = omega arith

pub Count-all : (u : Setup) (sp : Span) (g x : List Entry) (m : List ℕ) (end : ℕ) → end ≤ length g → length g ≡ contexts_of sp → EndsAt g end → Count u sp g x m end → Count u sp g x m (contexts_of sp)
Count-all u sp g x m end b size ends c =
    let whole : end + (contexts_of sp - end) ≡ contexts_of sp = omega arith in
    subst (λ (n : ℕ). Count u sp g x m n) whole (Count-rest u sp g x m end (contexts_of sp - end) ends c)

-- no number grows out of 32 bits: of each of at most 2 ^ 24 rows at most 8 passages lead to it
pub number_fits : (u : Setup) (sp : Span) (g x : List Entry) (m : List ℕ) (i : ℕ) (a : Ages) (ns : List Next) (k : ℕ) → contexts_of sp ≤ 2 ^ 24 → ns ≡ nexts_at u sp i a → ((v : ℕ) → passages (followed sp) v (nexts_at u sp i a) ≤ 8) → Counting u sp g x m i a (take k ns) → i < contexts_of sp → (n : Next) → slice_index m (spot (followed sp) n) < 2 ^ 32 - 1
number_fits u sp g x m i a ns k fits e few c l n =
    omega (arith, fits, c.small (spot (followed sp) n), passages-take (followed sp) (spot (followed sp) n) k ns, ap (passages (followed sp) (spot (followed sp) n)) e, few (spot (followed sp) n))

-- the sweep begins with no row done
pub Count-starts : (u : Setup) (sp : Span) (g x : List Entry) (m : List ℕ) → IsUnder u sp g x → m ≡ replicate (contexts_of sp) 0 → Count u sp g x m 0
unfolding total
Count-starts u sp g x m under e = record {
  under = under;
  numbers = rw e (length-replicate {A = ℕ} (contexts_of sp) 0);
  small = λ v. rw (e, zeros v) (omega arith);
  count = λ v b. rw e (zeros v);
  rows = λ i a l q. absurd (omega arith);
  fresh = λ i a l q. absurd (omega arith);
} where
  zeros : (v : ℕ) → slice_index (replicate (contexts_of sp) 0) v ≡ 0
  zeros v = zero_of (contexts_of sp) v where
    zero_of : (n v : ℕ) → slice_index (replicate n 0) v ≡ 0
    zero_of zero v = refl
    zero_of (suc n) zero = refl
    zero_of (suc n) (suc v) = zero_of n v

-- a grid without rows
pub IsUnder-starts : (u : Setup) (sp : Span) (g x : List Entry) → x ≡ replicate (contexts_of sp) Absent → IsUnder u sp g x
IsUnder-starts u sp g x e = record {
  size = rw e (length-replicate (contexts_of sp) Absent);
  least = λ f c i l. rw (e, get_or-replicate (contexts_of sp) i Absent Absent l) tt;
  within = λ i l. rw (e, get_or-replicate (contexts_of sp) i Absent Absent l) tt;
}
