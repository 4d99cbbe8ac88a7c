-- What one tick of a course makes of an open age.
use Rattle.std.proofs.Common.{◌≡◌, ℕ, ◌+◌, ◌≤◌, ◌==◌, min, Bool, true, false, not, ◌&&◌, ◌||◌, if◌then◌else◌, nat_lt, unwrap_or, Option, Some, None, List, length, refl, sym, subst, ◌∙◌, arith}
use Rattle.std.proofs.lemmas.Bool.{and_right, false≢true, or_from}
use Rattle.std.proofs.lemmas.Bool.Decides.{nat_tests}
use Rattle.pin_matrix.specs.declared.machine.MachineSetup.{MachineSetup}
use Rattle.pin_matrix.specs.declared.span.Span.{Span}
use Rattle.pin_matrix.specs.declared.span.PinSignal.{PinSignal}
use Rattle.sm_registers.specs.declared.intent.Intent.{Intent}
use Rattle.sm_registers.specs.declared.intent.Kind.{Kind}
use Rattle.span_step.specs.declared.ages.Ages.{Ages}
use Rattle.span_step.specs.declared.ages.Ages.TheVariants.{Empty, Between}
use Rattle.span_step.specs.Contexts.{IsInside, is_open}
use Rattle.span_step.specs.Courses.{watched, older, is_above, is_below, with_fresh, after_events, comes, is_edge}
use Rattle.span_step.specs.Courses as course
use Rattle.span_step.specs.Steps.{bounds_of, are_edges_events, is_among, is_bounded, is_end_event, is_event, is_named, is_excusing, rules_of}
use Rattle.span_ticks.specs.UnderWay.{Watch}
use Rattle.span_ticks.specs.Following.{InAges, IsAged, closes, finishes, opens, is_late, works}
use Rattle.span_ticks.proofs.Clean.{Tick, IsClean, clean_tick}

-- an age of ages that lie inside others is one of those
pub inside_ages : (bounded : Bool) (n : ℕ) (a b : Ages) → IsInside a b → InAges bounded n a → InAges bounded n b
inside_ages bounded n Empty b h i = absurd i
inside_ages bounded n (Between lo hi) Empty h i = absurd h
inside_ages bounded n (Between lo hi) (Between low high) h i = (omega (arith, h.0, i.0), λ e. omega (arith, h.1, i.1 e))

one_more : (most n hi : ℕ) → n ≤ hi → nat_lt most (min hi most + 1) ≡ false → n + 1 ≤ min hi most + 1
one_more most n hi k h = let below : min hi most + 1 ≤ most = grind (arith, nat_tests) in omega arith

older_ages : (bounded : Bool) (most n : ℕ) (a : Ages) → InAges bounded n a → (bounded && is_above most (older most a)) ≡ false
    → InAges bounded (n + 1) (older most a)
older_ages bounded most n Empty i h = absurd i
older_ages true most n (Between lo hi) i h = (omega (arith, i.0), λ e. one_more most n hi (i.1 refl) h)
older_ages false most n (Between lo hi) i h = (omega (arith, i.0), λ e. absurd (false≢true e))

-- where there is a greatest bound a late tick with an open age is at a named address
pub named_late : (late bounded named : Bool) (n : ℕ) (a : Ages) → InAges bounded n a → (late && (bounded && (not named && is_open a))) ≡ false
    → bounded ≡ true → late ≡ true → named ≡ true
named_late true true true n a i h b e = refl
named_late true true false n Empty i h b e = absurd i
named_late true true false n (Between lo hi) i h b e = cc
named_late true false named n a i h b e = cc
named_late false bounded named n a i h b e = cc

-- an age after the tick's count
counted_ages : (b late named bounded : Bool) (most n : ℕ) (a : Ages) → b ≡ late → InAges bounded n a → (bounded && is_above most (if late then a else older most a)) ≡ false
    → (late && (bounded && (not named && is_open a))) ≡ false → InAges bounded (n + (if b && named then 0 else 1)) (if late then a else older most a)
counted_ages true true named bounded most n Empty e i h k = absurd i
counted_ages true true true bounded most n (Between lo hi) e i h k = (omega (arith, i.0), λ y. omega (arith, i.1 y))
counted_ages true true false true most n (Between lo hi) e i h k = cc
counted_ages true true false false most n (Between lo hi) e i h k = (omega (arith, i.0), λ y. absurd (false≢true y))
counted_ages false true named bounded most n a e i h k = cc
counted_ages true false named bounded most n a e i h k = cc
counted_ages false false named bounded most n a e i h k = older_ages bounded most n a i h

up_to_most : (bounded : Bool) (most n : ℕ) (a : Ages) → InAges bounded n a → (bounded && is_above most a) ≡ false → bounded ≡ true → n ≤ most
up_to_most bounded most n Empty i h b = absurd i
up_to_most true most n (Between lo hi) i h b = let below : hi ≤ most = grind (arith, nat_tests) in omega (arith, below, i.1 refl)
up_to_most false most n (Between lo hi) i h b = cc

from_least : (bounded : Bool) (least n : ℕ) (a : Ages) (b : Bool) → InAges bounded n a → (b && is_below least a) ≡ false → b ≡ true → least ≤ n
from_least bounded least n a false i h e = cc
from_least bounded least n Empty true i h e = absurd i
from_least bounded least n (Between lo hi) true i h e = let above : least ≤ lo = grind (arith, nat_tests) in omega (arith, above, i.0)

fresh_ages : (bounded : Bool) (n : ℕ) (a : Ages) → InAges bounded n a → InAges bounded n (with_fresh a)
fresh_ages bounded n Empty i = absurd i
fresh_ages bounded n (Between lo hi) i = (omega arith, i.1)

kept_ages : (bounded : Bool) (n : ℕ) (a : Ages) (ends begins : Bool) → InAges bounded n a → ends ≡ false → InAges bounded n (after_events ends begins a)
kept_ages bounded n a true begins i e = cc
kept_ages bounded n a false true i e = fresh_ages bounded n a i
kept_ages bounded n a false false i e = i

zero_fresh : (bounded : Bool) (a : Ages) → InAges bounded 0 (with_fresh a)
zero_fresh bounded Empty = (omega arith, λ e. omega arith)
zero_fresh bounded (Between lo hi) = (omega arith, λ e. omega arith)

zero_kept : (bounded : Bool) (a : Ages) (ends begins : Bool) → begins ≡ true → InAges bounded 0 (after_events ends begins a)
zero_kept bounded a ends false e = cc
zero_kept bounded a true true e = zero_fresh bounded Empty
zero_kept bounded a false true e = zero_fresh bounded a

-- an event of the step, in a tick in which the machine works at the row's instruction
event_of : (watched : Option PinSignal) (at : List ℕ) (address : ℕ) (edge f works finishes : Bool) → works ≡ true → finishes ≡ f
    → comes edge (are_edges_events watched at address) f (is_end_event watched at address) ≡ is_event watched at address edge works finishes
event_of (Some signal) at address edge f true finishes e h = none f (edge && (length at == 0 || is_among at address)) where
  none : (f x : Bool) → (x || (f && false)) ≡ x
  none true true = refl
  none true false = refl
  none false true = refl
  none false false = refl
event_of None at address edge f true finishes e h = rw h (none edge (f && is_among at address)) where
  none : (x y : Bool) → ((x && false) || y) ≡ y
  none true y = refl
  none false y = refl
event_of watched at address edge f false finishes e h = cc

-- a tick without an edge in which nothing finishes has no event
pub no_event : (watched : Option PinSignal) (at : List ℕ) (address : ℕ) (edge works finishes : Bool) → edge ≡ false → finishes ≡ false → is_event watched at address edge works finishes ≡ false
no_event (Some signal) at address edge works finishes e h = rw e refl
no_event None at address edge works finishes e h = rw h refl

-- one tick, by the step's own events
pub tick_ages : (s : MachineSetup) (sp : Span) (address : ℕ) (kind : Kind) (w : Watch) (t : Tick) → is_late kind ≡ t.late
    → (t.late && is_excusing sp address) ≡ false → IsClean (watched (rules_of s sp address) w t).causes → (n : ℕ) → InAges (is_bounded sp) n w.ages
    → IsAged s sp address kind (course.closes (rules_of s sp address) w t) (watched (rules_of s sp address) w t) n
unfolding watched rules_of
tick_ages s sp address kind w t late free clean n i =
    let told = clean_tick (t.late && is_excusing sp address) w.causes _ free clean in
    let m = counted_ages (is_late kind) t.late (is_named sp address) (is_bounded sp) (bounds_of sp s).1 n w.ages late i told.u1 told.u3 in
    record {
      most = up_to_most (is_bounded sp) _ _ _ m told.u1;
      least = from_least (is_bounded sp) _ _ _ _ m told.u2;
      stays = λ h. kept_ages (is_bounded sp) _ _ _ _ m (or_from _ _ free h);
      named = λ b h. named_late t.late (is_bounded sp) (is_named sp address) n w.ages i told.u3 b (sym late ∙ h);
    }

pub tick_fresh : (s : MachineSetup) (sp : Span) (address : ℕ) (w : Watch) (t : Tick) → course.opens (rules_of s sp address) w t ≡ true
    → InAges (is_bounded sp) 0 (watched (rules_of s sp address) w t).ages
unfolding watched
tick_fresh s sp address w t h = zero_kept (is_bounded sp) _ ((t.late && (rules_of s sp address).excuses) || course.closes (rules_of s sp address) w t) _ h

-- a tick of the machine in which it works at the instruction: the step's tick finishes where it does
pub record IsTickOf (t : Tick) (i : Intent) : Type 0 where
  pub at_work : works i.kind None ≡ true
  pub ends : finishes true i.stalled ≡ t.finishes

-- its events
pub closes_of : (s : MachineSetup) (sp : Span) (address : ℕ) (i : Intent) (w v : Watch) (t : Tick) → IsTickOf t i → v.to ≡ w.to
    → course.closes (rules_of s sp address) w t ≡ closes sp address i v (watched (rules_of s sp address) w t)
unfolding watched rules_of
closes_of s sp address i w v t h e = rw e (event_of sp.to_signal sp.to_at address (is_edge sp.to_rise w.to (unwrap_or t.to w.to)) t.finishes (works i.kind None) (finishes (works i.kind None) i.stalled) h.at_work (rw h.at_work h.ends))

pub opens_of : (s : MachineSetup) (sp : Span) (address : ℕ) (i : Intent) (w v : Watch) (t : Tick) → IsTickOf t i → v.from ≡ w.from
    → course.opens (rules_of s sp address) w t ≡ opens sp address i v (watched (rules_of s sp address) w t)
unfolding watched rules_of
opens_of s sp address i w v t h e = rw e (event_of sp.from_signal sp.from_at address (is_edge sp.from_rise w.from (unwrap_or t.from w.from)) t.finishes (works i.kind None) (finishes (works i.kind None) i.stalled) h.at_work (rw h.at_work h.ends))

-- so with the ages
pub worked_ages : (s : MachineSetup) (sp : Span) (address : ℕ) (i : Intent) (w v : Watch) (t : Tick) → IsTickOf t i → v.to ≡ w.to → is_late i.kind ≡ t.late
    → (t.late && is_excusing sp address) ≡ false → IsClean (watched (rules_of s sp address) w t).causes → (n : ℕ) → InAges (is_bounded sp) n w.ages
    → IsAged s sp address i.kind (closes sp address i v (watched (rules_of s sp address) w t)) (watched (rules_of s sp address) w t) n
worked_ages s sp address i w v t h e late free clean n a =
    subst (λ z. IsAged s sp address i.kind z (watched (rules_of s sp address) w t) n) (closes_of s sp address i w v t h e) (tick_ages s sp address i.kind w t late free clean n a)

pub worked_fresh : (s : MachineSetup) (sp : Span) (address : ℕ) (i : Intent) (w v : Watch) (t : Tick) → IsTickOf t i → v.from ≡ w.from
    → opens sp address i v (watched (rules_of s sp address) w t) ≡ true → InAges (is_bounded sp) 0 (watched (rules_of s sp address) w t).ages
worked_fresh s sp address i w v t h e o = tick_fresh s sp address w t (opens_of s sp address i w v t h e ∙ o)

pub no_edge : (rise level : Bool) → is_edge rise level level ≡ false
no_edge true true = refl
no_edge true false = refl
no_edge false true = refl
no_edge false false = refl

-- a tick that writes nothing and in which nothing finishes has neither event
pub no_closes : (sp : Span) (address : ℕ) (i : Intent) (w v : Watch) → v.to ≡ w.to → finishes (works i.kind None) i.stalled ≡ false → closes sp address i w v ≡ false
no_closes sp address i w v e h = no_event sp.to_signal sp.to_at address (is_edge sp.to_rise w.to v.to) (works i.kind None) (finishes (works i.kind None) i.stalled) (rw e (no_edge sp.to_rise w.to)) h

pub no_opens : (sp : Span) (address : ℕ) (i : Intent) (w v : Watch) → v.from ≡ w.from → finishes (works i.kind None) i.stalled ≡ false → opens sp address i w v ≡ false
no_opens sp address i w v e h = no_event sp.from_signal sp.from_at address (is_edge sp.from_rise w.from v.from) (works i.kind None) (finishes (works i.kind None) i.stalled) (rw e (no_edge sp.from_rise w.from)) h

-- an open age of one that waits
waiting_age : (bounded late named : Bool) (n : ℕ) (a : Ages) → late ≡ true → (bounded ≡ true → late ≡ true → named ≡ true) → InAges bounded n a
    → InAges bounded (n + (if late && named then 0 else 1)) a
waiting_age bounded late named n Empty l h i = absurd i
waiting_age bounded true true n (Between lo hi) l h i = (omega (arith, i.0), λ e. omega (arith, i.1 e))
waiting_age true true false n (Between lo hi) l h i = absurd (false≢true (h refl refl))
waiting_age false true false n (Between lo hi) l h i = (omega (arith, i.0), λ e. absurd (false≢true e))
waiting_age bounded false named n (Between lo hi) l h i = cc

-- a tick of one that waits on, between the first tick of a course and a late one
pub waiting_ages : (s : MachineSetup) (sp : Span) (address : ℕ) (i : Intent) (w : Watch) (t : Tick) → finishes (works i.kind None) i.stalled ≡ false → is_late i.kind ≡ true → t.late ≡ true
    → is_excusing sp address ≡ false → IsClean (watched (rules_of s sp address) w t).causes → (n : ℕ) → InAges (is_bounded sp) n w.ages → IsAged s sp address i.kind (closes sp address i w w) w n
waiting_ages s sp address i w t waits late also free clean n a =
    let told : IsAged s sp address i.kind (course.closes (rules_of s sp address) w t) (watched (rules_of s sp address) w t) n = tick_ages s sp address i.kind w t (late ∙ sym also) (and_right t.late _ free) clean n a in
    record {
      most = told.most;
      least = λ h. absurd (false≢true (sym (no_closes sp address i w w refl waits) ∙ h));
      stays = λ h. waiting_age (is_bounded sp) (is_late i.kind) (is_named sp address) n w.ages late told.named a;
      named = told.named;
    }

pub no_fresh : (sp : Span) (address : ℕ) (i : Intent) (w : Watch) → finishes (works i.kind None) i.stalled ≡ false → opens sp address i w w ≡ true → InAges (is_bounded sp) 0 w.ages
no_fresh sp address i w waits h = absurd (false≢true (sym (no_opens sp address i w w refl waits) ∙ h))
