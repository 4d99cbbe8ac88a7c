-- A course from joined ages ends with joined ages, without cause where neither has one.
use Rattle.std.proofs.Common.{◌≡◌, ℕ, ◌+◌, ◌≤◌, Bool, true, false, not, ◌&&◌, ◌||◌, if◌then◌else◌, Some, None, List, [], ◌∷◌, refl, arith}
use Rattle.std.proofs.lemmas.Bool.Decides.{nat_tests}
use Rattle.std.proofs.lemmas.Bool.{or_from, or_parts}
use Rattle.span_step.specs.declared.ages.Ages.{Ages}
use Rattle.span_step.specs.declared.ages.Ages.TheVariants.{Empty, Between}
use Rattle.span_step.specs.declared.cause.Causes.{Causes}
use Rattle.span_step.specs.Contexts.{Context, is_open}
use Rattle.span_step.specs.Courses.{Rules, older, with_fresh, after_events, closes, opens, is_above, is_below, joined, tick_causes, start, watched, followed}
use Rattle.span_step.specs.Laws.{first_cause}
use Rattle.span_bounds.specs.Sums.{join}
use Rattle.span_refuted.proofs.Single.{Watch, Tick}

-- no cause is there that a tick adds
pub record IsClean (c : Causes) : Type 0 where
  pub u1 : c.u1 ≡ false
  pub u2 : c.u2 ≡ false
  pub u3 : c.u3 ≡ false
  pub u4 : c.u4 ≡ false

pub clean_none : (c : Causes) → IsClean c → c.u6 ≡ false → first_cause c ≡ None
clean_none c h met = rw (h.u1, h.u2, h.u3, h.u4, met) refl

some_none : {P A : Type 0} {a : A} → Some a ≡ None → P
some_none e = cc

none_by : (a b c d e : Bool) → first_cause (record { u1 = a; u2 = b; u3 = c; u4 = d; u6 = e }) ≡ None → IsClean (record { u1 = a; u2 = b; u3 = c; u4 = d; u6 = e })
none_by false false false false e h = record { u1 = refl; u2 = refl; u3 = refl; u4 = refl }
none_by true b c d e h = some_none h
none_by false true c d e h = some_none h
none_by false false true d e h = some_none h
none_by false false false true e h = some_none h

pub none_clean : (c : Causes) → first_cause c ≡ None → IsClean c
none_clean c h = let p = none_by c.u1 c.u2 c.u3 c.u4 c.u6 h in record { u1 = p.u1; u2 = p.u2; u3 = p.u3; u4 = p.u4 }

-- whatever U6 is
pub but_met : (c : Causes) → IsClean c → IsClean (record c { u6 = false })
but_met c h = record { u1 = h.u1; u2 = h.u2; u3 = h.u3; u4 = h.u4 }

pub met_too : (c : Causes) → IsClean (record c { u6 = false }) → IsClean c
met_too c h = record { u1 = h.u1; u2 = h.u2; u3 = h.u3; u4 = h.u4 }

pub clean_joined : (a b : Causes) → IsClean a → IsClean b → IsClean (joined a b)
clean_joined a b h k = record { u1 = or_from _ _ h.u1 k.u1; u2 = or_from _ _ h.u2 k.u2; u3 = or_from _ _ h.u3 k.u3; u4 = or_from _ _ h.u4 k.u4 }

pub clean_left : (a b : Causes) → IsClean (joined a b) → IsClean a
clean_left a b h = record {
  u1 = (or_parts a.u1 b.u1 h.u1).0;
  u2 = (or_parts a.u2 b.u2 h.u2).0;
  u3 = (or_parts a.u3 b.u3 h.u3).0;
  u4 = (or_parts a.u4 b.u4 h.u4).0;
}

pub clean_right : (a b : Causes) → IsClean (joined a b) → IsClean b
clean_right a b h = record {
  u1 = (or_parts a.u1 b.u1 h.u1).1;
  u2 = (or_parts a.u2 b.u2 h.u2).1;
  u3 = (or_parts a.u3 b.u3 h.u3).1;
  u4 = (or_parts a.u4 b.u4 h.u4).1;
}

-- the causes of a tick, which are none of its own where it is excused
clean_kept : (excused : Bool) (a b : Causes) → IsClean (if excused then a else joined a b) → IsClean a
clean_kept true a b h = h
clean_kept false a b h = clean_left a b h

clean_told : (excused : Bool) (a b : Causes) → excused ≡ false → IsClean (if excused then a else joined a b) → IsClean b
clean_told true a b e h = cc
clean_told false a b e h = clean_right a b h

clean_more : (excused : Bool) (a b : Causes) → IsClean a → (excused ≡ false → IsClean b) → IsClean (if excused then a else joined a b)
clean_more true a b h k = h
clean_more false a b h k = clean_joined a b h (k refl)

pair : (a b c d : ℕ) → a ≡ b → c ≡ d → Between a c ≡ Between b d
pair a b c d e f = rw (e, f) refl

fresh_join : (a b : Ages) → with_fresh (join a b) ≡ join (with_fresh a) (with_fresh b)
fresh_join Empty Empty = refl
fresh_join Empty (Between low high) = pair _ _ _ _ (omega arith) (omega arith)
fresh_join (Between lo hi) Empty = pair _ _ _ _ (omega arith) (omega arith)
fresh_join (Between lo hi) (Between low high) = pair _ _ _ _ (omega arith) (omega arith)

older_join : (m : ℕ) (a b : Ages) → older m (join a b) ≡ join (older m a) (older m b)
older_join m Empty b = refl
older_join m (Between lo hi) Empty = refl
older_join m (Between lo hi) (Between low high) = pair _ _ _ _ (omega arith) (omega arith)

edges_join : (closes opens : Bool) (a b : Ages) → after_events closes opens (join a b) ≡ join (after_events closes opens a) (after_events closes opens b)
edges_join true true a b = refl
edges_join true false a b = refl
edges_join false true a b = fresh_join a b
edges_join false false a b = refl

-- the ages after a tick's count
abbrev pub aged : ℕ → Bool → Ages → Ages
aged most late a = if late then a else older most a

aged_join : (m : ℕ) (late : Bool) (a b : Ages) → aged m late (join a b) ≡ join (aged m late a) (aged m late b)
aged_join m true a b = refl
aged_join m false a b = older_join m a b

above_join : (m : ℕ) (a b : Ages) → is_above m a ≡ false → is_above m b ≡ false → is_above m (join a b) ≡ false
above_join m Empty b h k = k
above_join m (Between lo hi) Empty h k = h
above_join m (Between lo hi) (Between low high) h k = grind (arith, nat_tests)

below_join : (m : ℕ) (a b : Ages) → is_below m a ≡ false → is_below m b ≡ false → is_below m (join a b) ≡ false
below_join m Empty b h k = k
below_join m (Between lo hi) Empty h k = h
below_join m (Between lo hi) (Between low high) h k = grind (arith, nat_tests)

open_join : (a b : Ages) → is_open a ≡ false → is_open b ≡ false → is_open (join a b) ≡ false
open_join Empty b h k = k
open_join (Between lo hi) b h k = absurd (bad h) where
  bad : true ≡ false → ⊥
  bad e = cc

and_false : (c x y z : Bool) → (x ≡ false → y ≡ false → z ≡ false) → (c && x) ≡ false → (c && y) ≡ false → (c && z) ≡ false
and_false true x y z f h k = f h k
and_false false x y z f h k = refl

told_join : (r : Rules) (late closes : Bool) (a b c d : Ages) → IsClean (tick_causes r late closes a c) → IsClean (tick_causes r late closes b d)
    → IsClean (tick_causes r late closes (join a b) (join c d))
told_join r late closes a b c d h k = record {
  u1 = and_false r.bounded _ _ _ (above_join r.max c d) h.u1 k.u1;
  u2 = and_false closes _ _ _ (below_join r.min c d) h.u2 k.u2;
  u3 = and_false late _ _ _ (and_false r.bounded _ _ _ (and_false (not r.named) _ _ _ (open_join a b))) h.u3 k.u3;
  u4 = refl;
}

-- a watch with the levels of two others, whose ages are those of either, and which has no cause where neither has
pub record Joins (a b c : Watch) : Type 0 where
  pub from : b.from ≡ a.from
  pub to : b.to ≡ a.to
  pub from_joined : c.from ≡ a.from
  pub to_joined : c.to ≡ a.to
  pub ages : c.ages ≡ join a.ages b.ages
  pub clean : IsClean a.causes → IsClean b.causes → IsClean c.causes

watched_joins : (r : Rules) (t : Tick) (a b c : Watch) → Joins a b c → Joins (watched r a t) (watched r b t) (watched r c t)
unfolding watched
watched_joins r t a b c h = record {
  from = rw h.from refl;
  to = rw h.to refl;
  from_joined = rw h.from_joined refl;
  to_joined = rw h.to_joined refl;
  ages = rw (h.from_joined, h.to_joined, h.from, h.to, h.ages, aged_join r.max t.late a.ages b.ages)
      (edges_join ((t.late && r.excuses) || closes r a t) (opens r a t) (aged r.max t.late a.ages) (aged r.max t.late b.ages));
  clean = λ p q. clean_more excused _ _ (h.clean (clean_kept excused _ _ p) (clean_kept excused _ _ q)) (λ e. told (clean_told excused _ _ e p) (clean_told excused _ _ e q));
} where
  excused : Bool
  excused = t.late && r.excuses

  told : IsClean (tick_causes r t.late (closes r a t) a.ages (aged r.max t.late a.ages))
      → IsClean (tick_causes r t.late (closes r b t) b.ages (aged r.max t.late b.ages))
      → IsClean (tick_causes r t.late (closes r c t) c.ages (aged r.max t.late c.ages))
  told p q = rw (h.to_joined, h.ages, aged_join r.max t.late a.ages b.ages) (told_join r t.late _ a.ages b.ages _ _ p (rw h.to at q))

pub followed_joins : (r : Rules) (ts : List Tick) (a b c : Watch) → Joins a b c → Joins (followed r ts a) (followed r ts b) (followed r ts c)
followed_joins r [] a b c h = h
followed_joins r (t ∷ ts) a b c h = followed_joins r ts _ _ _ (watched_joins r t a b c h)

pub start_joins : (k : Context) (a b : Ages) → Joins (start false k a) (start false k b) (start false k (join a b))
start_joins k a b = record { from = refl; to = refl; from_joined = refl; to_joined = refl; ages = refl; clean = λ p q. p }

-- no age is above this
abbrev pub AreSmall : ℕ → Ages → Type 0
AreSmall n Empty = Unit {0}
AreSmall n (Between lo hi) = (lo ≤ n) × (hi ≤ n)

older_small : (m : ℕ) (late : Bool) (a : Ages) → AreSmall (m + 1) a → AreSmall (m + 1) (aged m late a)
older_small m true a h = h
older_small m false Empty h = tt
older_small m false (Between lo hi) h = (omega arith, omega arith)

edges_small : (n : ℕ) (closes opens : Bool) (a : Ages) → AreSmall n a → AreSmall n (after_events closes opens a)
edges_small n true true a h = (omega arith, omega arith)
edges_small n true false a h = tt
edges_small n false true Empty h = (omega arith, omega arith)
edges_small n false true (Between lo hi) h = (omega arith, h.1)
edges_small n false false a h = h

watched_small : (r : Rules) (t : Tick) (w : Watch) → AreSmall (r.max + 1) w.ages → AreSmall (r.max + 1) (watched r w t).ages
unfolding watched
watched_small r t w h = edges_small (r.max + 1) _ _ _ (older_small r.max t.late w.ages h)

pub followed_small : (r : Rules) (ts : List Tick) (w : Watch) → AreSmall (r.max + 1) w.ages → AreSmall (r.max + 1) (followed r ts w).ages
followed_small r [] w h = h
followed_small r (t ∷ ts) w h = followed_small r ts _ (watched_small r t w h)
