-- In a run the ages of a course are those of from-edges: the least is that of one that is open, and so is the greatest.
use Rattle.std.proofs.Common.{◌≡◌, ℕ, zero, suc, ◌+◌, ◌<◌, ◌≤◌, ◌⊎◌, min, nat_lt, Bool, true, false, ◌&&◌, cond, if◌then◌else◌, Some, None, inl, inr, refl, sym, ap, subst, ◌∙◌, arith}
use Rattle.std.proofs.lemmas.Bool.{cases_lt, both_ways, lt-ltb, le-ltb, and_right}
use Rattle.pin_matrix.specs.declared.span.SpanUnit.TheVariants.{Ticks}
use Rattle.span_step.specs.declared.ages.Ages.{Ages}
use Rattle.span_step.specs.declared.ages.Ages.TheVariants.{Empty, Between}
use Rattle.span_step.specs.Courses.{Rules, older, after_events, is_above, is_below, tick_causes}
use Rattle.span_check.specs.Marks.{Mark}
use Rattle.span_check.specs.Holding.{counted, IsQuiet, IsSpokenOf, Holds}
use Rattle.span_refuted.proofs.Joining.{IsClean}

-- a from-edge is open since which so many ticks counted
pub record IsSince (m : ℕ → Mark) (c n : ℕ) : Type 0 where
  pub start : ℕ
  pub before : start < c
  pub edge : (m start).from ≡ true
  pub quiet : IsQuiet m start c
  pub count : counted m start c ≡ n

-- The ages are exact, and none is above the most. Where there is no greatest bound the least is exact, up to the age at which ages
-- stop.
abbrev pub AreExact : (bounded : Bool) → (ℕ → Mark) → (most c : ℕ) → Ages → Type 0
AreExact bounded m most c Empty = Unit {0}
AreExact true m most c (Between lo hi) = (lo ≤ hi) × ((hi ≤ most) × (IsSince m c lo × IsSince m c hi))
AreExact false m most c (Between lo hi) = lo ≤ most → IsSince m c lo

-- no clock excuses a from-edge or misses what is assumed, so that a span in ticks speaks of each
pub record IsFree (m : ℕ → Mark) : Type 0 where
  pub excused : (c : ℕ) → (m c).excused ≡ false
  pub misses : (c : ℕ) → (m c).misses ≡ false

spoken : (m : ℕ → Mark) (s end : ℕ) → IsFree m → IsSpokenOf Ticks m s end
spoken m s end free = record {
  free = λ c after before. free.excused c;
  assumed = λ f c misses from before. absurd (both_ways (m f).misses (free.misses f) misses);
  unbroken = tt;
}

-- the span doesn't hold up to some clock
abbrev pub IsBrokenBy : (bounded : Bool) (min max : ℕ) → (ℕ → Mark) → Type 0
IsBrokenBy bounded min max m = (n : ℕ) × (Holds Ticks min (if bounded then Some max else None) m n → ⊥)

counted_none : (m : ℕ → Mark) (s c : ℕ) → c ≤ suc s → counted m s c ≡ 0
unfolding counted
counted_none m s zero h = refl
counted_none m s (suc c) h =
    let le : c ≤ s = omega arith in
    let none : counted m s c ≡ 0 = counted_none m s c (omega arith) in
    rw (none, le-ltb s c le) refl

counted_more : (m : ℕ → Mark) (s c : ℕ) → s < c → (m c).counts ≡ true → counted m s (suc c) ≡ counted m s c + 1
unfolding counted
counted_more m s c h e = rw (lt-ltb s c h, e) refl

counted_same : (m : ℕ → Mark) (s c : ℕ) → (m c).counts ≡ false → counted m s (suc c) ≡ counted m s c
unfolding counted
counted_same m s c e = rw e (on (nat_lt s c)) where
  on : (b : Bool) → counted m s c + cond (b && false) 1 0 ≡ counted m s c
  on true = omega arith
  on false = omega arith

quiet_on : (m : ℕ → Mark) (s c : ℕ) → IsQuiet m s c → (m c).to ≡ false → IsQuiet m s (suc c)
quiet_on m s c q e d after before = elim (cases_lt d c) [ inl less ↦ q d after less | inr more ↦ let same : d ≡ c = omega (arith, before, more) in rw same e ]

-- a clock without a tick changes nothing
since_idle : (m : ℕ → Mark) (c n : ℕ) → (m c).counts ≡ false → (m c).to ≡ false → IsSince m c n → IsSince m (suc c) n
since_idle m c n e f h = record {
  start = h.start;
  before = (let b = h.before in omega arith);
  edge = h.edge;
  quiet = quiet_on m h.start c h.quiet f;
  count = counted_same m h.start c e ∙ h.count;
}

pub exact_idle : (bounded : Bool) (m : ℕ → Mark) (most c : ℕ) (a : Ages) → (m c).counts ≡ false → (m c).to ≡ false → AreExact bounded m most c a → AreExact bounded m most (suc c) a
exact_idle bounded m most c Empty e f h = tt
exact_idle true m most c (Between lo hi) e f h = (h.0, (h.1.0, (since_idle m c lo e f h.1.1.0, since_idle m c hi e f h.1.1.1)))
exact_idle false m most c (Between lo hi) e f h = λ l. since_idle m c lo e f (h l)

since_tick : (m : ℕ → Mark) (c n : ℕ) → (m c).counts ≡ true → (m c).to ≡ false → IsSince m c n → IsSince m (suc c) (n + 1)
since_tick m c n e f h = record {
  start = h.start;
  before = (let b = h.before in omega arith);
  edge = h.edge;
  quiet = quiet_on m h.start c h.quiet f;
  count = counted_more m h.start c h.before e ∙ ap (λ k. k + 1) h.count;
}

since_fresh : (m : ℕ → Mark) (c : ℕ) → (m c).from ≡ true → IsSince m (suc c) 0
since_fresh m c e = record { start = c; before = omega arith; edge = e; quiet = λ d after before. absurd (none d after before); count = counted_none m c (suc c) (omega arith) } where
  none : (d : ℕ) → c < d → d < suc c → ⊥
  none d h k = omega arith

-- a from-edge with more ticks than the most
above_breaks : (min max : ℕ) (m : ℕ → Mark) (c n : ℕ) → IsFree m → (m c).counts ≡ true → IsSince m c n → max < n + 1 → IsBrokenBy true min max m
above_breaks min max m c n free e h more = (suc c, λ holds. on (m c).to refl holds) where
  most : counted m h.start (suc c) ≡ n + 1
  most = counted_more m h.start c h.before e ∙ ap (λ k. k + 1) h.count

  starts : h.start < suc c
  starts = let b = h.before in omega arith

  on : (t : Bool) → (m c).to ≡ t → Holds Ticks min (Some max) m (suc c) → ⊥
  on true f holds = over _ most ((holds h.start starts h.edge).most c (record { after = h.before; first = h.quiet; edge = f }) (omega arith) (spoken m h.start (suc c) free)) where
    over : (k : ℕ) → k ≡ n + 1 → k ≤ max → ⊥
    over k q l = omega arith
  on false f holds = over _ most ((holds h.start starts h.edge).unclosed (quiet_on m h.start c h.quiet f) (spoken m h.start (suc c) free)) where
    over : (k : ℕ) → k ≡ n + 1 → k ≤ max → ⊥
    over k q l = omega arith

-- a to-edge after fewer than the least
below_breaks : (bounded : Bool) (min max : ℕ) (m : ℕ → Mark) (c n : ℕ) → IsFree m → (m c).counts ≡ true → (m c).to ≡ true → IsSince m c n → n + 1 < min → IsBrokenBy bounded min max m
below_breaks bounded min max m c n free e f h less = (suc c, λ holds. under _ most ((holds h.start starts h.edge).least c (record { after = h.before; first = h.quiet; edge = f }) (omega arith) (spoken m h.start (suc c) free))) where
  most : counted m h.start (suc c) ≡ n + 1
  most = counted_more m h.start c h.before e ∙ ap (λ k. k + 1) h.count

  starts : h.start < suc c
  starts = let b = h.before in omega arith

  under : (k : ℕ) → k ≡ n + 1 → min ≤ k → ⊥
  under k q l = omega arith

-- what a tick leaves where it breaks nothing
pub record GoesWell (bounded : Bool) (r : Rules) (m : ℕ → Mark) (c : ℕ) (a : Ages) (closes opens : Bool) : Type 0 where
  pub exact : AreExact bounded m r.max (suc c) (after_events closes opens (older r.max a))
  pub clean : IsClean (tick_causes r false closes a (older r.max a))

exact_fresh : (bounded : Bool) (m : ℕ → Mark) (most c : ℕ) → (m c).from ≡ true → AreExact bounded m most (suc c) (Between 0 0)
exact_fresh true m most c e = (omega arith, (omega arith, (since_fresh m c e, since_fresh m c e)))
exact_fresh false m most c e = λ l. since_fresh m c e

-- the rules are those of a span with a greatest bound or without one, whose least is up to the age at which ages stop then, and whose
-- events are edges that any instruction may make
pub record IsRuled (bounded : Bool) (r : Rules) : Type 0 where
  pub same : r.bounded ≡ bounded
  pub from_edges : r.from_edges ≡ true
  pub from_ends : r.from_ends ≡ false
  pub to_edges : r.to_edges ≡ true
  pub to_ends : r.to_ends ≡ false
  pub stops : bounded ≡ false → r.min ≤ r.max + 1

-- a tick of a span with a greatest bound
exact_between : (r : Rules) (m : ℕ → Mark) (c lo hi : ℕ) (closes opens : Bool) → IsFree m → (m c).counts ≡ true → (m c).to ≡ closes → (m c).from ≡ opens → AreExact true m r.max c (Between lo hi)
    → IsBrokenBy true r.min r.max m ⊎ GoesWell true r m c (Between lo hi) closes opens
exact_between r m c lo hi closes opens free e f g h = elim (cases_lt r.max (hi + 1)) [
  | inl above ↦ inl (above_breaks r.min r.max m c hi free e h.1.1.1 above)
  | inr fine ↦ elim (too_early closes f) [
    | inl broken ↦ inl broken
    | inr early ↦ inr (record {
      exact = subst (λ x. AreExact true m r.max (suc c) (after_events closes opens x)) (sym (one_older r.max lo hi h.0 h.1.0)) (left closes opens f g fine);
      clean = record { u1 = and_right r.bounded _ (le-ltb r.max _ (capped r.max hi fine)); u2 = early; u3 = refl; u4 = refl };
    })
  ]
] where
  one_older : (most lo hi : ℕ) → lo ≤ hi → hi ≤ most → older most (Between lo hi) ≡ Between (lo + 1) (hi + 1)
  one_older most lo hi h k = pair _ _ _ _ (omega arith) (omega arith) where
    pair : (a b c d : ℕ) → a ≡ b → c ≡ d → Between a c ≡ Between b d
    pair a b c d e f = rw (e, f) refl

  capped : (most hi : ℕ) → hi + 1 ≤ most → min hi most + 1 ≤ most
  capped most hi h = omega arith

  uncapped : (most lo least : ℕ) → lo ≤ most → least ≤ lo + 1 → least ≤ min lo most + 1
  uncapped most lo least h k = omega arith

  too_early : (z : Bool) → (m c).to ≡ z → IsBrokenBy true r.min r.max m ⊎ ((z && is_below r.min (older r.max (Between lo hi))) ≡ false)
  too_early true q = elim (cases_lt (lo + 1) r.min) [
    | inl less ↦ inl (below_breaks true r.min r.max m c lo free e q h.1.1.0 less)
    | inr enough ↦ inr (le-ltb _ r.min (uncapped r.max lo r.min (let a = h.0 in let b = h.1.0 in omega arith) enough))
  ]
  too_early false q = inr refl

  left : (z o : Bool) → (m c).to ≡ z → (m c).from ≡ o → hi + 1 ≤ r.max → AreExact true m r.max (suc c) (after_events z o (Between (lo + 1) (hi + 1)))
  left true true p q l = exact_fresh true m r.max c q
  left true false p q l = tt
  left false true p q l = (omega arith, (l, (since_fresh m c q, since_tick m c hi e p h.1.1.1)))
  left false false p q l = (let a = h.0 in omega arith, (l, (since_tick m c lo e p h.1.1.0, since_tick m c hi e p h.1.1.1)))

-- a tick of a span without one
exact_from : (r : Rules) (m : ℕ → Mark) (c lo hi : ℕ) (closes opens : Bool) → IsRuled false r → IsFree m → (m c).counts ≡ true → (m c).to ≡ closes → (m c).from ≡ opens → AreExact false m r.max c (Between lo hi)
    → IsBrokenBy false r.min r.max m ⊎ GoesWell false r m c (Between lo hi) closes opens
exact_from r m c lo hi closes opens ruled free e f g h = elim (too_early closes f) [
  | inl broken ↦ inl broken
  | inr early ↦ inr (record {
    exact = left closes opens f g;
    clean = record { u1 = ap (λ b. b && is_above r.max (older r.max (Between lo hi))) ruled.same; u2 = early; u3 = refl; u4 = refl };
  })
] where
  below : (most lo : ℕ) → min lo most + 1 ≤ most → lo ≤ most
  below most lo l = omega arith

  grown : (most lo : ℕ) → min lo most + 1 ≤ most → lo + 1 ≡ min lo most + 1
  grown most lo l = omega arith

  early_low : (most lo least : ℕ) → least ≤ most + 1 → min lo most + 1 < least → lo ≤ most
  early_low most lo least s l = omega arith

  early_count : (most lo least : ℕ) → least ≤ most + 1 → min lo most + 1 < least → lo + 1 < least
  early_count most lo least s l = omega arith

  too_early : (z : Bool) → (m c).to ≡ z → IsBrokenBy false r.min r.max m ⊎ ((z && is_below r.min (older r.max (Between lo hi))) ≡ false)
  too_early true q = elim (cases_lt (min lo r.max + 1) r.min) [
    | inl less ↦ inl (below_breaks false r.min r.max m c lo free e q (h (early_low r.max lo r.min (ruled.stops refl) less)) (early_count r.max lo r.min (ruled.stops refl) less))
    | inr enough ↦ inr (le-ltb _ r.min enough)
  ]
  too_early false q = inr refl

  left : (z o : Bool) → (m c).to ≡ z → (m c).from ≡ o → AreExact false m r.max (suc c) (after_events z o (older r.max (Between lo hi)))
  left true true p q = exact_fresh false m r.max c q
  left true false p q = tt
  left false true p q = λ l. since_fresh m c q
  left false false p q = λ l. subst (IsSince m (suc c)) (grown r.max lo l) (since_tick m c lo e p (h (below r.max lo l)))

pub exact_tick : (bounded : Bool) (r : Rules) (m : ℕ → Mark) (c : ℕ) (a : Ages) (closes opens : Bool) → IsRuled bounded r → IsFree m → (m c).counts ≡ true → (m c).to ≡ closes → (m c).from ≡ opens
    → AreExact bounded m r.max c a → IsBrokenBy bounded r.min r.max m ⊎ GoesWell bounded r m c a closes opens
exact_tick bounded r m c Empty closes opens ruled free e f g h = inr (record {
  exact = left closes opens g;
  clean = record { u1 = and_right r.bounded false refl; u2 = and_right closes false refl; u3 = refl; u4 = refl };
}) where
  left : (z o : Bool) → (m c).from ≡ o → AreExact bounded m r.max (suc c) (after_events z o Empty)
  left true true q = exact_fresh bounded m r.max c q
  left true false q = tt
  left false true q = exact_fresh bounded m r.max c q
  left false false q = tt
exact_tick true r m c (Between lo hi) closes opens ruled free e f g h = exact_between r m c lo hi closes opens free e f g h
exact_tick false r m c (Between lo hi) closes opens ruled free e f g h = exact_from r m c lo hi closes opens ruled free e f g h
