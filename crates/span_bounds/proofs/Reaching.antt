-- The first sweep keeps what it says of its grid.
use Rattle.std.proofs.Common.{◌≡◌, ◌≢◌, ℕ, ◌+◌, ◌*◌, ◌<◌, ◌≤◌, ◌⊎◌, Bool, true, false, MatchBool, List, [], ◌∷◌, ◌++◌, length, get_or, take, replicate, refl, sym, ◌∙◌, subst, inl, inr, arith}
use Rattle.std.proofs.Math.ListN.{set}
use Rattle.std.proofs.lemmas.Bool.{cases_eq}
use Rattle.std.proofs.lemmas.List.{length-set, get_or-set_same, get_or-set_other, get_or-replicate, length-replicate, length_push}
use Rattle.std.proofs.lemmas.List.Folds.{sum_by-replicate}
use Rattle.std.proofs.lemmas.List.Sums.{sum_by-set}
use Rattle.pin_matrix.specs.Followed.{followed}
use Rattle.pin_matrix.specs.declared.setup.Setup.{Setup}
use Rattle.pin_matrix.specs.declared.span.Span.{Span}
use Rattle.span_step.specs.declared.ages.Ages.{Ages}
use Rattle.span_step.specs.declared.ages.Ages.TheVariants.{Empty, Between}
use Rattle.span_step.specs.declared.stepped.Next.{Next}
use Rattle.span_step.specs.Contexts.{is_open}
use Rattle.span_step.specs.Laws.{AreAlike, GoesLike, AreInside, OpenAlike}
use Rattle.span_step.proofs.Wider.{IsNarrower-context_steps, open_inside}
use Rattle.span_step.proofs.Alike.{OpenAlike-context_steps}
use Rattle.span_bounds.specs.declared.entry.Entry.{Entry}
use Rattle.span_bounds.specs.declared.entry.Entry.TheVariants.{Absent, Present}
use Rattle.span_bounds.specs.Numbers.{number_of, contexts, contexts_of}
use Rattle.span_bounds.specs.Tables.{LiesAt, start_context}
use Rattle.span_bounds.specs.Edges.{at, nexts_at, spot, AllLie, IsClosedAt, Among}
use Rattle.span_bounds.specs.Reach.{IsHeldBy, holds, Below, AreHeld, zeroed, rises_left, room, IsNeeded, Sweep, SweepAtRow, Raised}
use Rattle.span_bounds.proofs.Coming.{EachNext-at, EachNext-more, EachNext-map, Among-push, Among-pop}
use Rattle.pin_matrix.specs.declared.assume.Follow.{Follow}

-- ages that are open no more than others which lie at an entry are held by it
holds_by : (a b : Ages) (e : Entry) → (is_open a ≡ true → is_open b ≡ true) → LiesAt b e → IsHeldBy a e
holds_by a b Absent k h = h
holds_by a b (Present c) k h = λ o. open_inside b c h (k o)

follows_inside : (far : Follow) (f : ℕ → Entry) (ms ns : List Next) → AreAlike (GoesLike AreInside) ms ns → AllLie far f ns → AreHeld far f ms
follows_inside far f [] ns h l = tt
follows_inside far f (m ∷ ms) [] h l = absurd h
follows_inside far f (m ∷ ms) (n ∷ ns) h l =
    (rw h.0.context (holds_by m.ages n.ages _ (open_inside _ _ h.0.ages) l.0), follows_inside far f ms ns h.1 l.1)

open_with : (a b : Bool) → a ≡ b → a ≡ true → b ≡ true
open_with a b e h = sym e ∙ h

follows_open : (far : Follow) (f : ℕ → Entry) (ms ns : List Next) → AreAlike (GoesLike OpenAlike) ms ns → AllLie far f ns → AreHeld far f ms
follows_open far f [] ns h l = tt
follows_open far f (m ∷ ms) [] h l = absurd h
follows_open far f (m ∷ ms) (n ∷ ns) h l =
    (rw h.0.context (holds_by m.ages n.ages _ (open_with _ _ h.0.ages) l.0), follows_open far f ms ns h.1 l.1)

holds_along : (u : Setup) (sp : Span) (f : ℕ → Entry) (i : ℕ) (a b : Ages) → (is_open a ≡ true → is_open b ≡ true) → AllLie (followed sp) f (nexts_at u sp i b) → AreHeld (followed sp) f (nexts_at u sp i a)
unfolding nexts_at
holds_along u sp f i Empty b k l = follows_inside (followed sp) f _ _ (IsNarrower-context_steps u sp _ Empty b tt).nexts l
holds_along u sp f i (Between lo hi) b k l = follows_open (followed sp) f _ _ (OpenAlike-context_steps u sp _ (Between lo hi) b (sym (k refl))) l

closed_holds : (u : Setup) (sp : Span) (f : ℕ → Entry) (i : ℕ) (a : Ages) → i < (contexts_of sp) → IsClosedAt u sp f → IsHeldBy a (f i) → AreHeld (followed sp) f (nexts_at u sp i a)
closed_holds u sp f i a l c h = on (f i) refl h where
  on : (e : Entry) → f i ≡ e → IsHeldBy a e → AreHeld (followed sp) f (nexts_at u sp i a)
  on Absent q k = absurd k
  on (Present b) q k = holds_along u sp f i a b k (c.steps i b l q)

-- what a needed row leads to is needed
pub IsNeeded-next : (u : Setup) (sp : Span) (i : ℕ) (a : Ages) (k : ℕ) (d : Next) → i < (contexts_of sp) → IsNeeded u sp i a → k < length (nexts_at u sp i a) → IsNeeded u sp (spot (followed sp) (get_or (nexts_at u sp i a) k d)) (get_or (nexts_at u sp i a) k d).ages
IsNeeded-next u sp i a k d l h m = record { needed = λ f c. EachNext-at (λ n. IsHeldBy n.ages (f (spot (followed sp) n))) _ k d (closed_holds u sp f i a l c (h.needed f c)) m }

pub IsHeldBy-below : (a : Ages) (e f : Entry) → IsHeldBy a e → Below e f → IsHeldBy a f
IsHeldBy-below a Absent f h b = absurd h
IsHeldBy-below a (Present c) Absent h b = absurd b
IsHeldBy-below a (Present c) (Present d) h b = λ o. b (h o)

pub Below-refl : (e : Entry) → Below e e
Below-refl Absent = tt
Below-refl (Present a) = λ o. o

open_zeroed : (a : Ages) → is_open (zeroed a) ≡ is_open a
open_zeroed Empty = refl
open_zeroed (Between lo hi) = refl

-- an entry that is raised holds what it held
below_raised : (a : Ages) (e : Entry) → holds a e ≡ false → Below e (Present (zeroed a))
below_raised a Absent q = tt
below_raised Empty (Present b) q = absurd (bad q) where
  bad : true ≡ false → ⊥
  bad e = cc
below_raised (Between lo hi) (Present b) q = λ o. refl

holds_zeroed : (a : Ages) → IsHeldBy a (Present (zeroed a))
holds_zeroed a = λ o. open_zeroed a ∙ o

zeroed_held : (a : Ages) (e : Entry) → IsHeldBy a e → IsHeldBy (zeroed a) e
zeroed_held a Absent h = h
zeroed_held a (Present b) h = λ o. h (sym (open_zeroed a) ∙ o)

holds_true : (a : Ages) (e : Entry) → holds a e ≡ true → IsHeldBy a e
holds_true a Absent q = absurd (bad q) where
  bad : false ≡ true → ⊥
  bad e = cc
holds_true Empty (Present b) q = λ o. absurd (bad o) where
  bad : false ≡ true → ⊥
  bad e = cc
holds_true (Between lo hi) (Present b) q = λ o. q

pub at_other : (g : List Entry) (i j : ℕ) (e : Entry) → j ≢ i → at (set g i e) j ≡ at g j
at_other g i j e n = get_or-set_other g i j e Absent n

pub at_same : (g : List Entry) (i : ℕ) (e : Entry) → i < length g → at (set g i e) i ≡ e
at_same g i e l = get_or-set_same g i e Absent l

-- at each number the entry is the old one or lies above it
below_set : (g : List Entry) (i j : ℕ) (e : Entry) → i < length g → Below (at g i) e → Below (at g j) (at (set g i e) j)
below_set g i j e l b = on (cases_eq j i) where
  on : (j ≡ i) ⊎ (j ≢ i) → Below (at g j) (at (set g i e) j)
  on (inl q) = rw (q, at_same g i e l) b
  on (inr n) = rw (at_other g i j e n) (Below-refl (at g j))

module _ (u : Setup) (sp : Span) (g : List Entry) (w : List ℕ) (s : Sweep u sp g w) (i : ℕ) (a : Ages) (l : i < (contexts_of sp)) (fails : holds a (at g i) ≡ false) (n : IsNeeded u sp i a) where
  g' : List Entry
  g' = set g i (Present (zeroed a))

  inside : i < length g
  inside = rw s.size l

  raised_below : (j : ℕ) → Below (at g j) (at (set g i (Present (zeroed a))) j)
  raised_below j = below_set g i j (Present (zeroed a)) inside (below_raised a (at g i) fails)

  pub AreHeld-raised : (ns : List Next) → AreHeld (followed sp) (at g) ns → AreHeld (followed sp) (at (set g i (Present (zeroed a)))) ns
  AreHeld-raised ns h = EachNext-map (λ m. IsHeldBy m.ages (at g (spot (followed sp) m))) (λ m. IsHeldBy m.ages (at (set g i (Present (zeroed a))) (spot (followed sp) m))) (λ m k. IsHeldBy-below m.ages _ _ k (raised_below (spot (followed sp) m))) ns h

  pub Sweep-raised : Sweep u sp (set g i (Present (zeroed a))) (i ∷ w)
  Sweep-raised = record {
    size = length-set g i (Present (zeroed a)) ∙ s.size;
    near = λ j h. elim h [ inl e ↦ rw e l | inr m ↦ s.near j m ];
    begins = IsHeldBy-below Empty _ _ s.begins (raised_below _);
    steps = λ j b m q. steps j b m q (cases_eq j i);
    least = λ f c j m. least f c j m (cases_eq j i);
  } where
    steps : (j : ℕ) (b : Ages) → j < (contexts_of sp) → at (set g i (Present (zeroed a))) j ≡ Present b → (j ≡ i) ⊎ (j ≢ i) → Among j (i ∷ w) ⊎ AreHeld (followed sp) (at (set g i (Present (zeroed a)))) (nexts_at u sp j b)
    steps j b m q (inl e) = inl (inl e)
    steps j b m q (inr d) = elim (s.steps j b m (sym (at_other g i j _ d) ∙ q)) [ inl k ↦ inl (inr k) | inr k ↦ inr (AreHeld-raised _ k) ]

    least : (f : ℕ → Entry) → IsClosedAt u sp f → (j : ℕ) → j < (contexts_of sp) → (j ≡ i) ⊎ (j ≢ i) → Below (at (set g i (Present (zeroed a))) j) (f j)
    least f c j m (inl e) = rw (e, at_same g i (Present (zeroed a)) inside) (zeroed_held a (f i) (n.needed f c))
    least f c j m (inr d) = rw (at_other g i j (Present (zeroed a)) d) (s.least f c j m)

-- a number more may wait
wider : (u : Setup) (sp : Span) (g : List Entry) (w v : List ℕ) → ((j : ℕ) → Among j w → Among j v) → ((j : ℕ) → Among j v → j < (contexts_of sp)) → Sweep u sp g w → Sweep u sp g v
wider u sp g w v k near s = record {
  size = s.size;
  near = near;
  begins = s.begins;
  steps = λ j b m q. elim (s.steps j b m q) [ inl h ↦ inl (k j h) | inr h ↦ inr h ];
  least = s.least;
}

-- the next that is at a place is raised
pub SweepAtRow-raised : (u : Setup) (sp : Span) (g g' : List Entry) (w w' : List ℕ) (i : ℕ) (a : Ages) (k : ℕ) (d : Next) → i < (contexts_of sp) → k < length (nexts_at u sp i a) → spot (followed sp) (get_or (nexts_at u sp i a) k d) < (contexts_of sp) →
    SweepAtRow u sp g w i a (take k (nexts_at u sp i a)) →
    Raised (spot (followed sp) (get_or (nexts_at u sp i a) k d)) (get_or (nexts_at u sp i a) k d).ages g g' w w' →
    SweepAtRow u sp g' w' i a (take (k + 1) (nexts_at u sp i a))
SweepAtRow-raised u sp g g' w w' i a k d l m below v r = on (holds n.ages (at g (spot (followed sp) n))) refl r where
  n : Next
  n = get_or (nexts_at u sp i a) k d

  on : (z : Bool) → holds n.ages (at g (spot (followed sp) n)) ≡ z → MatchBool z ((g' ≡ g) × (w' ≡ w)) ((g' ≡ set g (spot (followed sp) n) (Present (zeroed n.ages))) × (w' ≡ w ++ spot (followed sp) n ∷ [])) → SweepAtRow u sp g' w' i a (take (k + 1) (nexts_at u sp i a))
  on true q e = rw (e.0, e.1) (record {
    sweep = v.sweep;
    row = v.row;
    held = EachNext-more (λ x. IsHeldBy x.ages (at g (spot (followed sp) x))) _ k d m v.held (holds_true _ _ q);
    same = v.same;
  })
  on false q e = rw (e.0, e.1) (record {
    sweep = wider u sp _ (spot (followed sp) n ∷ i ∷ w) (i ∷ (w ++ spot (followed sp) n ∷ [])) there near raised;
    row = v.row;
    held = EachNext-more (λ x. IsHeldBy x.ages (at (set g (spot (followed sp) n) (Present (zeroed n.ages))) (spot (followed sp) x))) _ k d m
        (AreHeld-raised u sp g (i ∷ w) v.sweep (spot (followed sp) n) n.ages below q needed _ v.held)
        (rw (at_same g (spot (followed sp) n) (Present (zeroed n.ages)) (rw v.sweep.size below)) (holds_zeroed n.ages));
    same = same (cases_eq i (spot (followed sp) n)) v.same;
  }) where
    needed : IsNeeded u sp (spot (followed sp) n) n.ages
    needed = IsNeeded-next u sp i a k d l v.row m

    raised : Sweep u sp (set g (spot (followed sp) n) (Present (zeroed n.ages))) (spot (followed sp) n ∷ i ∷ w)
    raised = Sweep-raised u sp g (i ∷ w) v.sweep (spot (followed sp) n) n.ages below q needed

    there : (j : ℕ) → Among j (spot (followed sp) n ∷ i ∷ w) → Among j (i ∷ (w ++ spot (followed sp) n ∷ []))
    there j (inl h) = inr (Among-push j (spot (followed sp) n) w (inl h))
    there j (inr (inl h)) = inl h
    there j (inr (inr h)) = inr (Among-push j (spot (followed sp) n) w (inr h))

    back : (j : ℕ) → Among j (spot (followed sp) n ∷ w) → Among j (spot (followed sp) n ∷ i ∷ w)
    back j (inl h) = inl h
    back j (inr h) = inr (inr h)

    near : (j : ℕ) → Among j (i ∷ (w ++ spot (followed sp) n ∷ [])) → j < (contexts_of sp)
    near j (inl h) = raised.near j (inr (inl h))
    near j (inr h) = raised.near j (back j (Among-pop j (spot (followed sp) n) w h))

    same : (i ≡ spot (followed sp) n) ⊎ (i ≢ spot (followed sp) n) → (at g i ≡ Present a) ⊎ Among i w → (at (set g (spot (followed sp) n) (Present (zeroed n.ages))) i ≡ Present a) ⊎ Among i (w ++ spot (followed sp) n ∷ [])
    same (inl h) o = inr (Among-push i (spot (followed sp) n) w (inl h))
    same (inr h) (inl o) = inl (at_other g (spot (followed sp) n) i _ h ∙ o)
    same (inr h) (inr o) = inr (Among-push i (spot (followed sp) n) w (inr o))

left_less : (a : Ages) (e : Entry) → holds a e ≡ false → rises_left (Present (zeroed a)) + 1 ≤ rises_left e
left_less Empty Absent q = omega arith
left_less (Between lo hi) Absent q = omega arith
left_less Empty (Present b) q = absurd (bad q) where
  bad : true ≡ false → ⊥
  bad e = cc
left_less (Between lo hi) (Present Empty) q = omega arith
left_less (Between lo hi) (Present (Between low high)) q = absurd (bad q) where
  bad : true ≡ false → ⊥
  bad e = cc

-- a grid without rows has the whole room
pub room_blank : (far : Follow) (g : List Entry) (w : List ℕ) → g ≡ replicate (contexts far) Absent → w ≡ [] → room g + length w ≤ 2 * contexts far
room_blank far g w e q = rw (e, q, sum_by-replicate rises_left (contexts far) Absent) (omega arith)

-- a raise makes at most as much wait as it takes from the room
pub room_raised : (i : ℕ) (a : Ages) (g g' : List Entry) (w w' : List ℕ) → i < length g → Raised i a g g' w w' → room g' + length w' ≤ room g + length w
room_raised i a g g' w w' l r = on (holds a (at g i)) refl r where
  on : (z : Bool) → holds a (at g i) ≡ z → MatchBool z ((g' ≡ g) × (w' ≡ w)) ((g' ≡ set g i (Present (zeroed a))) × (w' ≡ w ++ i ∷ [])) → room g' + length w' ≤ room g + length w
  on true q e = rw (e.0, e.1) (omega arith)
  on false q e = rw (e.0, e.1, length_push w i) (room_falls _ _ _ _ _ (sum_by-set rises_left g i (Present (zeroed a)) Absent l) (left_less a (at g i) q)) where
    room_falls : (x y o n v : ℕ) → x + o ≡ y + n → n + 1 ≤ o → x + (v + 1) ≤ y + v
    room_falls x y o n v h k = omega arith

-- after the start is raised there is still room
pub room_starts : (far : Follow) (g g' : List Entry) (w w' : List ℕ) (i : ℕ) → g ≡ replicate (contexts far) Absent → w ≡ [] → i < contexts far → Raised i Empty g g' w w' → room g' + length w' ≤ 2 * contexts far
room_starts far g g' w w' i e q l r =
    let inside : i < length g = rw (e, length-replicate (contexts far) Absent) l in
    omega (arith, room_blank far g w e q, room_raised i Empty g g' w w' inside r)

-- where all nexts are done, the row waits no more
pub SweepAtRow-done : (u : Setup) (sp : Span) (g : List Entry) (w : List ℕ) (i : ℕ) (a : Ages) → SweepAtRow u sp g w i a (nexts_at u sp i a) → Sweep u sp g w
SweepAtRow-done u sp g w i a v = record {
  size = v.sweep.size;
  near = λ j h. v.sweep.near j (inr h);
  begins = v.sweep.begins;
  steps = λ j b m q. steps j b q v.same (v.sweep.steps j b m q);
  least = v.sweep.least;
} where
  steps : (j : ℕ) (b : Ages) → at g j ≡ Present b → (at g i ≡ Present a) ⊎ Among i w → Among j (i ∷ w) ⊎ AreHeld (followed sp) (at g) (nexts_at u sp j b) → Among j w ⊎ AreHeld (followed sp) (at g) (nexts_at u sp j b)
  steps j b q s (inl (inr h)) = inl h
  steps j b q s (inr h) = inr h
  steps j b q (inr o) (inl (inl h)) = inl (rw h o)
  steps j b q (inl o) (inl (inl h)) =
      let same : a ≡ b = cc in inr (rw (h, ← same) v.held)

pub SweepAtRow-begins : (u : Setup) (sp : Span) (g : List Entry) (w : List ℕ) (i : ℕ) (a : Ages) → i < (contexts_of sp) → at g i ≡ Present a → Sweep u sp g (i ∷ w) → SweepAtRow u sp g w i a []
SweepAtRow-begins u sp g w i a l q s = record {
  sweep = s;
  row = record { needed = λ f c. rw q at (s.least f c i l) };
  held = tt;
  same = inl q;
}

-- the same as the code has it
pub SweepAtRow-step : (u : Setup) (sp : Span) (g g' : List Entry) (w w' : List ℕ) (i : ℕ) (a : Ages) (items : List Next) (k : ℕ) (n : Next) (p : ℕ) → i < (contexts_of sp) → items ≡ nexts_at u sp i a → k < length items → n ≡ get_or items k n → p ≡ spot (followed sp) n → p < (contexts_of sp) →
    SweepAtRow u sp g w i a (take k items) → Raised p n.ages g g' w w' → SweepAtRow u sp g' w' i a (take (k + 1) items)
SweepAtRow-step u sp g g' w w' i a items k n p l e m q o below v r =
    let q' : n ≡ get_or (nexts_at u sp i a) k n = rw e at q in
    let r' : Raised (spot (followed sp) n) n.ages g g' w w' = rw o at r in
    let below' : spot (followed sp) n < (contexts_of sp) = rw o at below in
    rw e (SweepAtRow-raised u sp g g' w w' i a k n l (rw e at m)
    (subst (λ x. spot (followed sp) x < (contexts_of sp)) q' below')
    (rw e at v)
    (subst (λ x. Raised (spot (followed sp) x) x.ages g g' w w') q' r'))

absent : (far : Follow) (i : ℕ) → i < contexts far → at (replicate (contexts far) Absent) i ≡ Absent
absent far i l = get_or-replicate (contexts far) i Absent Absent l

lies_holds_empty : (e : Entry) → LiesAt Empty e → IsHeldBy Empty e
lies_holds_empty Absent h = h
lies_holds_empty (Present b) h = λ o. absurd (closed o) where
  closed : false ≡ true → ⊥
  closed x = cc

-- the start is raised in a grid without rows
pub Sweep-starts : (u : Setup) (sp : Span) (g g' : List Entry) (w w' : List ℕ) (i : ℕ) → g ≡ replicate (contexts_of sp) Absent → w ≡ [] → i ≡ number_of (followed sp) (start_context u sp) → i < (contexts_of sp) → Raised i Empty g g' w w' → Sweep u sp g' w'
Sweep-starts u sp g g' w w' i e o q l r =
    let none : at g i ≡ Absent = rw e (absent (followed sp) i l) in
    let r' : (g' ≡ set g i (Present Empty)) × (w' ≡ w ++ i ∷ []) = rw none at r in
    let full : length g ≡ (contexts_of sp) = rw e (length-replicate (contexts_of sp) Absent) in
    let inside : i < length g = rw full l in
    rw (r'.0, r'.1, o) (record {
      size = length-set g i (Present Empty) ∙ full;
      near = λ j h. elim h [ inl m ↦ rw m l | inr m ↦ absurd m ];
      begins = rw (← q, at_same g i (Present Empty) inside) (λ x. x);
      steps = λ j b m p. steps j b m p (cases_eq j i);
      least = λ f c j m. least f c j m (cases_eq j i);
    }) where
      full_inside : i < length g
      full_inside = rw (e, length-replicate (contexts_of sp) Absent) l

      others : (j : ℕ) → j < (contexts_of sp) → j ≢ i → at (set g i (Present Empty)) j ≡ Absent
      others j m n = at_other g i j (Present Empty) n ∙ rw e (absent (followed sp) j m)

      steps : (j : ℕ) (b : Ages) → j < (contexts_of sp) → at (set g i (Present Empty)) j ≡ Present b → (j ≡ i) ⊎ (j ≢ i) → Among j (i ∷ []) ⊎ AreHeld (followed sp) (at (set g i (Present Empty))) (nexts_at u sp j b)
      steps j b m p (inl h) = inl (inl h)
      steps j b m p (inr n) = absurd (different (sym (others j m n) ∙ p)) where
        different : {b : Ages} → Absent ≡ Present b → ⊥
        different x = cc

      least : (f : ℕ → Entry) → IsClosedAt u sp f → (j : ℕ) → j < (contexts_of sp) → (j ≡ i) ⊎ (j ≢ i) → Below (at (set g i (Present Empty)) j) (f j)
      least f c j m (inl h) = rw (h, at_same g i (Present Empty) full_inside, q) (lies_holds_empty _ c.starts)
      least f c j m (inr n) = rw (others j m n) tt

-- a number is taken from the end
pub Sweep-pop : (u : Setup) (sp : Span) (g : List Entry) (w w' : List ℕ) (i : ℕ) → w ≡ w' ++ i ∷ [] → Sweep u sp g w → Sweep u sp g (i ∷ w')
Sweep-pop u sp g w w' i e s = let s' : Sweep u sp g (w' ++ i ∷ []) = rw e at s in
    wider u sp g (w' ++ i ∷ []) (i ∷ w') (λ j h. Among-pop j i w' h) (λ j h. s'.near j (Among-push j i w' h)) s'

-- a number without a row needn't wait
pub Sweep-skip : (u : Setup) (sp : Span) (g : List Entry) (w : List ℕ) (i : ℕ) → at g i ≡ Absent → Sweep u sp g (i ∷ w) → Sweep u sp g w
Sweep-skip u sp g w i e s = record {
  size = s.size;
  near = λ j h. s.near j (inr h);
  begins = s.begins;
  steps = λ j b m q. elim (s.steps j b m q) [ inl h ↦ drop_it j b q h | inr h ↦ inr h ];
  least = s.least;
} where
  different : {b : Ages} → Absent ≡ Present b → ⊥
  different x = cc

  drop_it : (j : ℕ) (b : Ages) → at g j ≡ Present b → (j ≡ i) ⊎ Among j w → Among j w ⊎ AreHeld (followed sp) (at g) (nexts_at u sp j b)
  drop_it j b q (inl h) = absurd (different (sym (rw h e) ∙ q))
  drop_it j b q (inr h) = inl h
