-- Where no cause is there at the end of a course, there was none on the way.
use Rattle.std.proofs.Common.{◌≡◌, Bool, true, false, ◌&&◌, if◌then◌else◌, None, List, [], ◌∷◌, refl}
use Rattle.std.proofs.lemmas.Bool.{or_parts}
use Rattle.span_step.specs.declared.cause.Causes.{Causes}
use Rattle.span_step.specs.Courses.{Rules, watched, followed, delay_tick, joined}
use Rattle.span_step.specs.Contexts.{Context}
use Rattle.span_step.specs.Laws.{first_cause}
use Rattle.span_ticks.specs.UnderWay.{ValueOf, Watch}

-- a tick of a course
abbrev pub Tick : Type 0
Tick = ValueOf (λ (k : Context). delay_tick)

-- no cause is there that a tick adds
pub record IsClean (c : Causes) : Type 0 where
  pub u1 : c.u1 ≡ false
  pub u2 : c.u2 ≡ false
  pub u3 : c.u3 ≡ false
  pub u4 : c.u4 ≡ false

clean_by : (a b c d e : Bool) → first_cause (record { u1 = a; u2 = b; u3 = c; u4 = d; u6 = e }) ≡ None → IsClean (record { u1 = a; u2 = b; u3 = c; u4 = d; u6 = e })
clean_by true b c d e h = cc
clean_by false true c d e h = cc
clean_by false false true d e h = cc
clean_by false false false true e h = cc
clean_by false false false false e h = record { u1 = refl; u2 = refl; u3 = refl; u4 = refl }

pub clean_of : (c : Causes) → first_cause c ≡ None → IsClean c
clean_of c h = let p = clean_by c.u1 c.u2 c.u3 c.u4 c.u6 h in record { u1 = p.u1; u2 = p.u2; u3 = p.u3; u4 = p.u4 }

pub none_of : (c : Causes) → IsClean c → c.u6 ≡ false → first_cause c ≡ None
none_of c h met = rw (h.u1, h.u2, h.u3, h.u4, met) refl

pub clean_left : (a b : Causes) → IsClean (joined a b) → IsClean a
clean_left a b h = record {
  u1 = (or_parts a.u1 b.u1 h.u1).0;
  u2 = (or_parts a.u2 b.u2 h.u2).0;
  u3 = (or_parts a.u3 b.u3 h.u3).0;
  u4 = (or_parts a.u4 b.u4 h.u4).0;
}

pub clean_right : (a b : Causes) → IsClean (joined a b) → IsClean b
clean_right a b h = record {
  u1 = (or_parts a.u1 b.u1 h.u1).1;
  u2 = (or_parts a.u2 b.u2 h.u2).1;
  u3 = (or_parts a.u3 b.u3 h.u3).1;
  u4 = (or_parts a.u4 b.u4 h.u4).1;
}

pub clean_watched : (r : Rules) (w : Watch) (t : Tick) → IsClean (watched r w t).causes → IsClean w.causes
unfolding watched
clean_watched r w t h = by (t.late && r.excuses) _ h where
  by : (z : Bool) (c : Causes) → IsClean (if z then w.causes else joined w.causes c) → IsClean w.causes
  by true c k = k
  by false c k = clean_left _ _ k

-- a tick that isn't excused adds none
pub clean_tick : (z : Bool) (a b : Causes) → z ≡ false → IsClean (if z then a else joined a b) → IsClean b
clean_tick true a b e h = cc
clean_tick false a b e h = clean_right a b h

-- no tick adds U6
pub met_watched : (r : Rules) (w : Watch) (t : Tick) → w.causes.u6 ≡ false → (watched r w t).causes.u6 ≡ false
unfolding watched
met_watched r w t h = by (t.late && r.excuses) _ refl where
  by : (z : Bool) (c : Causes) → c.u6 ≡ false → (if z then w.causes else joined w.causes c).u6 ≡ false
  by true c e = h
  by false c e = rw (h, e) refl

pub met_followed : (r : Rules) (ts : List Tick) (w : Watch) → w.causes.u6 ≡ false → (followed r ts w).causes.u6 ≡ false
met_followed r [] w h = h
met_followed r (t ∷ ts) w h = met_followed r ts (watched r w t) (met_watched r w t h)

pub clean_followed : (r : Rules) (ts : List Tick) (w : Watch) → IsClean (followed r ts w).causes → IsClean w.causes
clean_followed r [] w h = h
clean_followed r (t ∷ ts) w h = clean_watched r w t (clean_followed r ts (watched r w t) h)
