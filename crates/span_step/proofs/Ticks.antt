-- A tick without events, and an excused one.
use Rattle.std.proofs.Common.{◌≡◌, Bool, true, false, ◌&&◌, ◌||◌, if◌then◌else◌, Option, refl}
use Rattle.std.proofs.Math.Bool.{or-false, and-false, and-true}
use Rattle.span_step.specs.declared.ages.Ages.TheVariants.{Empty, Between}
use Rattle.span_step.specs.declared.course.Tick.{Tick}
use Rattle.span_step.specs.declared.course.Watch.{Watch}
use Rattle.span_step.specs.Courses.{Rules, older, is_edge, opens, joined, tick_causes, delay_tick, watched}

no_edge : (rise level : Bool) → is_edge rise level level ≡ false
no_edge true true = refl
no_edge true false = refl
no_edge false true = refl
no_edge false false = refl

-- a tick that writes nothing and ends nothing has no event
pub rested : (r : Rules) (w : Watch) → watched r w delay_tick ≡ record w { ages = older r.max w.ages; causes = joined w.causes (tick_causes r false false w.ages (older r.max w.ages)) }
unfolding watched
rested r w = rw (no_edge r.to_rise w.to, no_edge r.from_rise w.from, or-false w.from_edge, or-false w.closes, and-true w.passes) refl

-- whether the instruction finishes is asked only where its end is an event
pub asked : (r : Rules) (w : Watch) (f g : Option Bool) → watched r w (record { late = false; finishes = r.from_ends || r.to_ends; from = f; to = g }) ≡ watched r w (record { late = false; finishes = true; from = f; to = g })
unfolding watched
asked r w f g = rw (first r.from_ends r.to_ends, second r.from_ends r.to_ends) refl where
  first : (a b : Bool) → ((a || b) && a) ≡ a
  first true b = refl
  first false true = refl
  first false false = refl

  second : (a b : Bool) → ((a || b) && b) ≡ b
  second true true = refl
  second true false = refl
  second false true = refl
  second false false = refl

-- an excused tick leaves no age but that of its own from-event
pub excused_ages : (r : Rules) (w : Watch) (t : Tick) → (t.late && r.excuses) ≡ true → (watched r w t).ages ≡ (if opens r w t then Between 0 0 else Empty)
unfolding watched
excused_ages r w t e = rw e refl

pub excused_causes : (r : Rules) (w : Watch) (t : Tick) → (t.late && r.excuses) ≡ true → (watched r w t).causes ≡ w.causes
unfolding watched
excused_causes r w t e = rw e refl

pub excused_closes : (r : Rules) (w : Watch) (t : Tick) → (t.late && r.excuses) ≡ true → (watched r w t).closes ≡ w.closes
unfolding watched
excused_closes r w t e = rw (e, and-false, or-false w.closes) refl

pub excused_passes : (r : Rules) (w : Watch) (t : Tick) → (t.late && r.excuses) ≡ true → (watched r w t).passes ≡ false
unfolding watched
excused_passes r w t e = rw (e, and-false w.passes) refl
