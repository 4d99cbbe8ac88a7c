-- The rows that the third sweep leaves have the age at which ages stop in every closed table.
use Rattle.std.proofs.Common.{◌≡◌, ℕ, ◌<◌, ◌≤◌, ◌==◌, Bool, true, false, ◌&&◌, List, [], ◌∷◌, length, refl, sym, ◌∙◌, inl, inr, arith}
use Rattle.std.proofs.lemmas.Bool.Decides.{nat_tests}
use Rattle.pin_matrix.specs.Followed.{followed}
use Rattle.pin_matrix.specs.declared.setup.Setup.{Setup}
use Rattle.pin_matrix.specs.declared.span.Span.{Span}
use Rattle.pin_matrix.specs.declared.assume.Follow.{Follow}
use Rattle.span_step.specs.declared.ages.Ages.{Ages}
use Rattle.span_step.specs.declared.ages.Ages.TheVariants.{Empty, Between}
use Rattle.span_step.specs.declared.stepped.Next.{Next}
use Rattle.span_step.specs.Contexts.{is_open}
use Rattle.span_step.specs.Laws.{AreAlike, GoesLike, AreInside, OpenAlike, AllReach, ReachesAge, AreUpTo, cap_of}
use Rattle.span_step.proofs.Wider.{IsNarrower-context_steps, open_inside}
use Rattle.span_step.proofs.Alike.{OpenAlike-context_steps}
use Rattle.span_bounds.specs.declared.entry.Entry.{Entry}
use Rattle.span_bounds.specs.declared.entry.Entry.TheVariants.{Absent, Present}
use Rattle.span_bounds.specs.Tables.{LiesAt}
use Rattle.span_bounds.specs.Edges.{at, nexts_at, spot, EachNext, AllLie, IsClosedAt}
use Rattle.span_bounds.specs.Reach.{IsHeldBy, AreHeld, IsReach}
use Rattle.span_bounds.specs.Sums.{passages, one_if, open_at}
use Rattle.span_bounds.specs.Take.{IsFresh, IsTaken}
use Rattle.span_bounds.proofs.Joins.{joined_at, lies_still, IsUnder-join}
use Rattle.span_bounds.proofs.Counts.{but_still}
use Rattle.span_bounds.proofs.Ends.{ReachesAt, left_above, nexts_reach}
use Rattle.span_bounds.proofs.Filled.{capped}
use Rattle.span_bounds.specs.Numbers.{contexts_of}

-- a next of a row is held where the row is held
held_by : (a b : Ages) (e : Entry) → (is_open a ≡ true → is_open b ≡ true) → IsHeldBy b e → IsHeldBy a e
held_by a b Absent k h = h
held_by a b (Present c) k h = λ o. h (k o)

held_narrower : (far : Follow) (f : ℕ → Entry) (ms ns : List Next) → AreAlike (GoesLike AreInside) ms ns → AreHeld far f ns → AreHeld far f ms
held_narrower far f [] ns h l = tt
held_narrower far f (m ∷ ms) [] h l = absurd h
held_narrower far f (m ∷ ms) (n ∷ ns) h l = (rw h.0.context (held_by m.ages n.ages _ (open_inside _ _ h.0.ages) l.0), held_narrower far f ms ns h.1 l.1)

held_alike : (far : Follow) (f : ℕ → Entry) (ms ns : List Next) → AreAlike (GoesLike OpenAlike) ms ns → AreHeld far f ns → AreHeld far f ms
held_alike far f [] ns h l = tt
held_alike far f (m ∷ ms) [] h l = absurd h
held_alike far f (m ∷ ms) (n ∷ ns) h l = (rw h.0.context (held_by m.ages n.ages _ (λ o. sym h.0.ages ∙ o) l.0), held_alike far f ms ns h.1 l.1)

held_along : (u : Setup) (sp : Span) (f : ℕ → Entry) (i : ℕ) (a b : Ages) → (is_open a ≡ true → is_open b ≡ true) → AreHeld (followed sp) f (nexts_at u sp i b) → AreHeld (followed sp) f (nexts_at u sp i a)
unfolding nexts_at
held_along u sp f i Empty b k l = held_narrower (followed sp) f _ _ (IsNarrower-context_steps u sp _ Empty b tt).nexts l
held_along u sp f i (Between lo hi) b k l = held_alike (followed sp) f _ _ (OpenAlike-context_steps u sp _ (Between lo hi) b (sym (k refl))) l

-- in the first sweep's grid each next of a row is held
pub reach_holds : (u : Setup) (sp : Span) (g : List Entry) (i : ℕ) (a : Ages) → IsReach u sp g → i < (contexts_of sp) → IsHeldBy a (at g i) → AreHeld (followed sp) (at g) (nexts_at u sp i a)
reach_holds u sp g i a r l h = on (at g i) refl h where
  on : (e : Entry) → at g i ≡ e → IsHeldBy a e → AreHeld (followed sp) (at g) (nexts_at u sp i a)
  on Absent q k = absurd k
  on (Present b) q k = held_along u sp (at g) i a b k (elim (r.sweep.steps i b l q) [ inl h ↦ absurd h | inr h ↦ h ])

-- ages that every closed table has join the table
pub IsFresh-join : (u : Setup) (sp : Span) (g x : List Entry) (p : ℕ) (a : Ages) → p < (contexts_of sp) → IsFresh u sp g x → ((f : ℕ → Entry) → IsClosedAt u sp f → LiesAt a (f p)) → IsHeldBy a (at g p) → IsFresh u sp g (joined_at x p a)
IsFresh-join u sp g x p a l s needed h = record {
  under = IsUnder-join u sp g x p a l s.under needed h;
  rows = λ j c m q. lies_still x p a Empty j inside (s.rows j c m q);
  fresh = λ j c m q. but_still (followed sp) (is_open c) x p a _ inside (s.fresh j c m q);
} where
  inside : p < length x
  inside = rw s.under.size l

-- ages at an entry of which the least is up to this
abbrev LowAt : ℕ → Entry → Type 0
LowAt c Absent = ⊥
LowAt c (Present Empty) = Unit {0}
LowAt c (Present (Between lo hi)) = lo ≤ c

low_inside : (c : ℕ) (a : Ages) (e : Entry) → AreUpTo c a → ReachesAge 0 a → LiesAt a e → LowAt c e
low_inside c a Absent u r h = h
low_inside c Empty (Present b) u r h = absurd r
low_inside c (Between lo hi) (Present Empty) u r h = tt
low_inside c (Between lo hi) (Present (Between low high)) u r h = omega (arith, u.0, h.0)

passed_low : (far : Follow) (c v : ℕ) (f : ℕ → Entry) (ns : List Next) → 1 ≤ passages far v ns → AllReach 0 ns → EachNext (λ m. AreUpTo c m.ages) ns → AllLie far f ns → LowAt c (f v)
unfolding passages
passed_low far c v f [] h r u l = absurd (omega arith)
passed_low far c v f (m ∷ ms) h r u l = on m.passes (spot far m == v) refl refl (λ k. passed_low far c v f ms k r.1 u.1 l.1) where
  on : (y z : Bool) → m.passes ≡ y → (spot far m == v) ≡ z → (1 ≤ passages far v ms → LowAt c (f v)) → LowAt c (f v)
  on true true p q later =
      let same : spot far m ≡ v = grind (arith, nat_tests) in
      rw (← same) (low_inside c m.ages (f (spot far m)) u.0 (r.0 p) l.0)
  on true false p q later =
      let none : one_if (m.passes && spot far m == v) ≡ 0 = rw (p, q) refl in
      later (omega arith)
  on false z p q later =
      let none : one_if (m.passes && spot far m == v) ≡ 0 = rw p refl in
      later (omega arith)

reach_none : (n : ℕ) (ns : List Next) → AllReach n ns → AllReach 0 ns
reach_none n [] h = tt
reach_none n (m ∷ ms) h = (λ p. less m.ages (h.0 p), reach_none n ms h.1) where
  less : (a : Ages) → ReachesAge n a → ReachesAge 0 a
  less Empty k = k
  less (Between lo hi) k = omega arith

-- a row that is left has the cap among its ages in every closed table
pub left_capped : (u : Setup) (sp : Span) (l x : List Entry) → IsTaken u sp l x → (f : ℕ → Entry) → IsClosedAt u sp f → (i : ℕ) → i < (contexts_of sp) → open_at (at l i) ≡ true → LiesAt (Between (cap_of u sp) (cap_of u sp)) (f i)
left_capped u sp l x t f c i m o = both (f i) (left_above u sp l x t f c (cap_of u sp) (omega arith) i m o) (by (f w.0) refl (left_above u sp l x t f c 0 (omega arith) w.0 w.1.0 w.1.1.0)) where
  w : (w : ℕ) × ((w < (contexts_of sp)) × ((open_at (at l w) ≡ true) × ((b : Ages) → 1 ≤ passages (followed sp) i (nexts_at u sp w b))))
  w = t.blocked i m o

  by : (e : Entry) → f w.0 ≡ e → ReachesAt 0 e → LowAt (cap_of u sp) (f i)
  by Absent q h = absurd h
  by (Present a) q h = passed_low (followed sp) (cap_of u sp) i f (nexts_at u sp w.0 a) (w.1.1.1 a) (reach_none _ _ (nexts_reach u sp w.0 a 0 h)) (capped u sp w.0 a) (c.steps w.0 a w.1.0 q)

  both : (e : Entry) → ReachesAt (cap_of u sp) e → LowAt (cap_of u sp) e → LiesAt (Between (cap_of u sp) (cap_of u sp)) e
  both Absent h k = absurd h
  both (Present Empty) h k = absurd h
  both (Present (Between lo hi)) h k = (k, h)
