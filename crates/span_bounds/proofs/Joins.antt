-- Ages that join an entry, and what a table keeps then.
use Rattle.std.proofs.Common.{◌≡◌, ◌≢◌, ℕ, ◌<◌, ◌⊎◌, Bool, true, false, ◌&&◌, List, [], ◌∷◌, length, refl, sym, ◌∙◌, inl, inr, arith}
use Rattle.std.proofs.Math.ListN.{set}
use Rattle.std.proofs.lemmas.Bool.{cases_eq}
use Rattle.std.proofs.lemmas.List.{length-set}
use Rattle.pin_matrix.specs.Followed.{followed}
use Rattle.pin_matrix.specs.declared.setup.Setup.{Setup}
use Rattle.pin_matrix.specs.declared.span.Span.{Span}
use Rattle.span_step.specs.declared.ages.Ages.{Ages}
use Rattle.span_step.specs.declared.ages.Ages.TheVariants.{Empty, Between}
use Rattle.span_step.specs.declared.stepped.Next.{Next}
use Rattle.span_step.specs.Contexts.{IsInside, is_open}
use Rattle.span_step.specs.Laws.{AreAlike, GoesLike, AreInside, SameAfterEdge}
use Rattle.span_step.proofs.Wider.{IsNarrower-context_steps, inside_trans}
use Rattle.span_step.proofs.Alike.{SameAfterEdge-context_steps}
use Rattle.span_bounds.specs.declared.entry.Entry.{Entry}
use Rattle.span_bounds.specs.declared.entry.Entry.TheVariants.{Absent, Present}
use Rattle.span_bounds.specs.Tables.{LiesAt}
use Rattle.span_bounds.specs.Edges.{at, nexts_at, spot, AllLie, IsClosedAt}
use Rattle.span_bounds.specs.Reach.{IsHeldBy, Below}
use Rattle.span_bounds.specs.Sums.{join, join_into}
use Rattle.span_bounds.specs.Count.{EntryIn, LieBut, IsUnder}
use Rattle.span_bounds.proofs.Coming.{EachNext-map}
use Rattle.span_bounds.proofs.Reaching.{at_same, at_other}
use Rattle.span_bounds.specs.Numbers.{contexts_of}
use Rattle.pin_matrix.specs.declared.assume.Follow.{Follow}

inside_refl : (a : Ages) → IsInside a a
inside_refl Empty = tt
inside_refl (Between lo hi) = (omega arith, omega arith)

inside_left : (a b : Ages) → IsInside a (join a b)
inside_left Empty b = tt
inside_left (Between lo hi) Empty = inside_refl (Between lo hi)
inside_left (Between lo hi) (Between low high) = (omega arith, omega arith)

inside_right : (a b : Ages) → IsInside b (join a b)
inside_right Empty b = inside_refl b
inside_right (Between lo hi) Empty = tt
inside_right (Between lo hi) (Between low high) = (omega arith, omega arith)

join_inside : (a b c : Ages) → IsInside a c → IsInside b c → IsInside (join a b) c
join_inside Empty b c h k = k
join_inside (Between lo hi) Empty c h k = h
join_inside (Between lo hi) (Between low high) Empty h k = absurd h
join_inside (Between lo hi) (Between low high) (Between least most) h k = (omega arith, omega arith)

pub lies_trans : (a b : Ages) (e : Entry) → IsInside a b → LiesAt b e → LiesAt a e
lies_trans a b Absent h k = k
lies_trans a b (Present c) h k = inside_trans a b c h k

-- ages lie where they join, and what lay there still does
lies_join : (a : Ages) (e : Entry) → LiesAt a (Present (join_into a e))
lies_join a Absent = inside_refl a
lies_join a (Present b) = inside_left a b

lies_joined : (a c : Ages) (e : Entry) → LiesAt c e → LiesAt c (Present (join_into a e))
lies_joined a c Absent h = absurd h
lies_joined a c (Present b) h = inside_trans c b (join a b) h (inside_right a b)

pub join_lies : (a : Ages) (e f : Entry) → LiesAt a f → EntryIn e f → LiesAt (join_into a e) f
join_lies a Absent f h k = h
join_lies a (Present b) Absent h k = absurd h
join_lies a (Present b) (Present c) h k = join_inside a b c h k

join_open : (a b : Ages) → is_open (join a b) ≡ true → (is_open a ≡ true) ⊎ (is_open b ≡ true)
join_open Empty b h = inr h
join_open (Between lo hi) Empty h = inl refl
join_open (Between lo hi) (Between low high) h = inl refl

join_holds : (a : Ages) (e f : Entry) → IsHeldBy a f → Below e f → IsHeldBy (join_into a e) f
join_holds a Absent f h k = h
join_holds a (Present b) Absent h k = absurd h
join_holds a (Present b) (Present c) h k = λ o. elim (join_open a b o) [ inl p ↦ h p | inr p ↦ k p ]

-- the table with ages joined at a number
abbrev pub joined_at : List Entry → ℕ → Ages → List Entry
joined_at x p a = set x p (Present (join_into a (at x p)))

pub lies_at_join : (x : List Entry) (p : ℕ) (a : Ages) → p < length x → LiesAt a (at (joined_at x p a) p)
lies_at_join x p a l = rw (at_same x p (Present (join_into a (at x p))) l) (lies_join a (at x p))

pub lies_still : (x : List Entry) (p : ℕ) (a c : Ages) (j : ℕ) → p < length x → LiesAt c (at x j) → LiesAt c (at (joined_at x p a) j)
lies_still x p a c j l h = on (cases_eq j p) where
  on : (j ≡ p) ⊎ (j ≢ p) → LiesAt c (at (joined_at x p a) j)
  on (inl e) = rw (e, at_same x p (Present (join_into a (at x p))) l) (lies_joined a c (at x p) (rw e at h))
  on (inr n) = rw (at_other x p j (Present (join_into a (at x p))) n) h

pub IsUnder-join : (u : Setup) (sp : Span) (g x : List Entry) (p : ℕ) (a : Ages) → p < (contexts_of sp) → IsUnder u sp g x → ((f : ℕ → Entry) → IsClosedAt u sp f → LiesAt a (f p)) → IsHeldBy a (at g p) → IsUnder u sp g (joined_at x p a)
IsUnder-join u sp g x p a l s needed h = record {
  size = length-set x p (Present (join_into a (at x p))) ∙ s.size;
  least = λ f c j m. least f c j m (cases_eq j p);
  within = λ j m. within j m (cases_eq j p);
} where
  inside : p < length x
  inside = rw s.size l

  least : (f : ℕ → Entry) → IsClosedAt u sp f → (j : ℕ) → j < (contexts_of sp) → (j ≡ p) ⊎ (j ≢ p) → EntryIn (at (joined_at x p a) j) (f j)
  least f c j m (inl e) = rw (e, at_same x p (Present (join_into a (at x p))) inside) (join_lies a (at x p) (f p) (needed f c) (s.least f c p l))
  least f c j m (inr n) = rw (at_other x p j (Present (join_into a (at x p))) n) (s.least f c j m)

  within : (j : ℕ) → j < (contexts_of sp) → (j ≡ p) ⊎ (j ≢ p) → Below (at (joined_at x p a) j) (at g j)
  within j m (inl e) = rw (e, at_same x p (Present (join_into a (at x p))) inside) (join_holds a (at x p) (at g p) h (s.within p l))
  within j m (inr n) = rw (at_other x p j (Present (join_into a (at x p))) n) (s.within j m)

-- what follows ages inside lies where theirs do
pub follows_lie : (far : Follow) (f : ℕ → Entry) (ms ns : List Next) → AreAlike (GoesLike AreInside) ms ns → AllLie far f ns → AllLie far f ms
follows_lie far f [] ns h l = tt
follows_lie far f (m ∷ ms) [] h l = absurd h
follows_lie far f (m ∷ ms) (n ∷ ns) h l = (rw h.0.context (lies_trans m.ages n.ages _ h.0.ages l.0), follows_lie far f ms ns h.1 l.1)

lies_same : (a b : Ages) (e : Entry) → a ≡ b → LiesAt b e → LiesAt a e
lies_same a b e q h = rw q h

pub follows_edge : (far : Follow) (f : ℕ → Entry) (ms ns : List Next) → AreAlike (GoesLike SameAfterEdge) ms ns → LieBut far true f ns → LieBut far true f ms
follows_edge far f [] ns h l = tt
follows_edge far f (m ∷ ms) [] h l = absurd h
follows_edge far f (m ∷ ms) (n ∷ ns) h l =
    (λ q. rw h.0.context (lies_same m.ages n.ages _ (h.0.ages q) (l.0 (sym h.0.passes ∙ q))), follows_edge far f ms ns h.1 l.1)

pub lie_but : (far : Follow) (o : Bool) (f : ℕ → Entry) (ns : List Next) → AllLie far f ns → LieBut far o f ns
lie_but far o f ns h = EachNext-map (λ n. LiesAt n.ages (f (spot far n))) (λ n. (o && n.passes) ≡ false → LiesAt n.ages (f (spot far n))) (λ n k q. k) ns h

along : (u : Setup) (sp : Span) (f : ℕ → Entry) (i : ℕ) (a b : Ages) → IsInside a b → AllLie (followed sp) f (nexts_at u sp i b) → AllLie (followed sp) f (nexts_at u sp i a)
unfolding nexts_at
along u sp f i a b k h = follows_lie (followed sp) f _ _ (IsNarrower-context_steps u sp _ a b k).nexts h

pub beside : (u : Setup) (sp : Span) (f : ℕ → Entry) (i : ℕ) (a b : Ages) → LieBut (followed sp) true f (nexts_at u sp i b) → LieBut (followed sp) true f (nexts_at u sp i a)
unfolding nexts_at
beside u sp f i a b h = follows_edge (followed sp) f _ _ (SameAfterEdge-context_steps u sp _ a b) h

-- after a row whose ages lie in a closed table's, all nexts lie in it
pub closed_lies : (u : Setup) (sp : Span) (f : ℕ → Entry) (i : ℕ) (a : Ages) → i < (contexts_of sp) → IsClosedAt u sp f → LiesAt a (f i) → AllLie (followed sp) f (nexts_at u sp i a)
closed_lies u sp f i a l c h = on (f i) refl h where
  on : (e : Entry) → f i ≡ e → LiesAt a e → AllLie (followed sp) f (nexts_at u sp i a)
  on Absent q k = absurd k
  on (Present b) q k = along u sp f i a b k (c.steps i b l q)

-- after a row that a closed table has, all nexts lie in it but the passages of an open row
pub closed_lie_but : (u : Setup) (sp : Span) (f : ℕ → Entry) (i : ℕ) (a : Ages) → i < (contexts_of sp) → IsClosedAt u sp f → IsHeldBy a (f i) → LieBut (followed sp) (is_open a) f (nexts_at u sp i a)
closed_lie_but u sp f i a l c h = on (f i) refl h where
  by : (a b : Ages) → AllLie (followed sp) f (nexts_at u sp i b) → LieBut (followed sp) (is_open a) f (nexts_at u sp i a)
  by Empty b k = lie_but (followed sp) false f _ (along u sp f i Empty b tt k)
  by (Between lo hi) b k = beside u sp f i (Between lo hi) b (lie_but (followed sp) true f _ k)

  on : (e : Entry) → f i ≡ e → IsHeldBy a e → LieBut (followed sp) (is_open a) f (nexts_at u sp i a)
  on Absent q k = absurd k
  on (Present b) q k = by a b (c.steps i b l q)
