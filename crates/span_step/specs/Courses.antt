-- How an instruction may go, tick by tick, and what becomes of the ages on the way.
--   Write            what a tick writes to the span's two pins
--   prompt, delayed  the courses of an instruction, as lists of ticks
--   Rules            what the span asks of a row
--   comes            an event comes in a tick
--   Watch            what is known in the middle of a course
--   watched          one tick
use Rattle.std.specs.Prelude.{ℕ, ◌+◌, min, Bool, true, false, not, ◌&&◌, ◌||◌, if◌then◌else◌, Option, Some, None, List, [], ◌∷◌, nat_lt, replicate, fold, unwrap_or}
use Rattle.span_step.specs.declared.ages.Ages.{Ages}
use Rattle.span_step.specs.declared.ages.Ages.TheVariants.{Empty, Between}
use Rattle.span_step.specs.declared.cause.Causes.{Causes}
use Rattle.span_step.specs.declared.course.Tick.{Tick}
use Rattle.span_step.specs.declared.course.Watch.{Watch}
use Rattle.span_step.specs.declared.levels.Write.{Write}
use Rattle.span_step.specs.Contexts.{Context, is_open}
use Rattle.span_step.specs.Outcomes.{ContextOutcome}

-- a later write replaces an earlier one, and side-set's replaces the instruction's own (RP2040 Datasheet, section 3.5.6.1)
abbrev pub over : Option Bool → Option Bool → Option Bool
over (Some level) below = Some level
over None below = below

-- a tick in which nothing is written and no instruction ends, and which counts
abbrev pub delay_tick : Tick
delay_tick = record { late = false; finishes = false; from = None; to = None }

-- the ticks of a delay
abbrev pub delay_ticks : ℕ → List Tick
delay_ticks delay = replicate delay delay_tick

-- The prompt course: all effects in the first tick, in which the instruction finishes, then the delay.
unfoldable pub prompt : Write → ContextOutcome → ℕ → List Tick
prompt side o delay =
    record { late = false; finishes = true; from = over side.from o.from; to = over side.to o.to } ∷ delay_ticks delay

-- The delayed course of an instruction that may stall: side-set in the first tick, the other effects in the last late tick, in
-- which the instruction finishes, then the delay. One late tick counts for any number, since those before the last write nothing
-- and don't count.
unfoldable pub delayed : Write → ContextOutcome → ℕ → List Tick
delayed side o delay =
    record { late = false; finishes = false; from = side.from; to = side.to }
    ∷ record { late = true; finishes = true; from = o.from; to = o.to }
    ∷ delay_ticks delay

-- an instruction that may stall has both courses, any other one
unfoldable pub courses : (stalls : Bool) → Write → ContextOutcome → ℕ → List (List Tick)
courses stalls side o delay = prompt side o delay ∷ (if stalls then delayed side o delay ∷ [] else [])

-- What the span asks of a row: of each of its two events whether an edge of this direction is one in this row, and whether the
-- end of the row's instruction is; its bounds in ticks, whether it has a greatest bound, whether stalls at the row's address are
-- left out, and whether a stall there excuses open from-events: the span speaks of none after which its machine waits there. Ages
-- stop one above `max`, whether this is a bound or not.
pub record Rules : Type 0 where
  pub from_rise : Bool
  pub from_edges : Bool
  pub from_ends : Bool
  pub to_rise : Bool
  pub to_edges : Bool
  pub to_ends : Bool
  pub min : ℕ
  pub max : ℕ
  pub bounded : Bool
  pub named : Bool
  pub excuses : Bool

-- the level changes in this direction
abbrev pub is_edge : (rise old new : Bool) → Bool
is_edge true old new = not old && new
is_edge false old new = old && not new

-- an event comes in a tick: an edge where edges are events, or the end of the instruction where ends are
abbrev pub comes : (edge edges finishes ends : Bool) → Bool
comes edge edges finishes ends = (edge && edges) || (finishes && ends)

-- the to-event comes in a tick
abbrev pub closes : Rules → Watch → Tick → Bool
closes r w t = comes (is_edge r.to_rise w.to (unwrap_or t.to w.to)) r.to_edges t.finishes r.to_ends

-- the from-event comes in a tick
abbrev pub opens : Rules → Watch → Tick → Bool
opens r w t = comes (is_edge r.from_rise w.from (unwrap_or t.from w.from)) r.from_edges t.finishes r.from_ends

-- open ages are one more, up to one above `most`
abbrev pub older : ℕ → Ages → Ages
older most Empty = Empty
older most (Between lo hi) = Between (min lo most + 1) (min hi most + 1)

-- some age is above `most`
abbrev pub is_above : ℕ → Ages → Bool
is_above most Empty = false
is_above most (Between lo hi) = nat_lt most hi

-- some age is below the least that is right
abbrev pub is_below : ℕ → Ages → Bool
is_below least Empty = false
is_below least (Between lo hi) = nat_lt lo least

-- a from-event adds the age 0
abbrev pub with_fresh : Ages → Ages
with_fresh Empty = Between 0 0
with_fresh (Between lo hi) = Between 0 hi

-- the ages after the tick's events: a to-event empties them, then a from-event adds the age 0
abbrev pub after_events : (closes opens : Bool) → Ages → Ages
after_events closes opens ages =
    let left = if closes then Empty else ages in if opens then with_fresh left else left

-- no cause is there
abbrev pub no_causes : Causes
no_causes = record { u1 = false; u2 = false; u3 = false; u4 = false; u6 = false }

-- the causes of either
abbrev pub joined : Causes → Causes → Causes
joined a b = record { u1 = a.u1 || b.u1; u2 = a.u2 || b.u2; u3 = a.u3 || b.u3; u4 = a.u4 || b.u4; u6 = a.u6 || b.u6 }

-- The causes that one tick adds. U1: an age is above the greatest bound; U2: a to-event comes too early; U3: the machine waits
-- at an address that isn't named while a from-event is open. Where there is no greatest bound neither U1 nor U3 is asked, since
-- a wait only lengthens the time.
abbrev pub tick_causes : Rules → (late closes : Bool) → (before aged : Ages) → Causes
tick_causes r late closes before aged = record {
  u1 = r.bounded && is_above r.max aged;
  u2 = closes && is_below r.min aged;
  u3 = late && (r.bounded && (not r.named && is_open before));
  u4 = false;
  u6 = false;
}

-- One tick. A late tick doesn't count; any other makes open ages one more. Then the events of the tick come: the edges of what
-- it writes, or the end of its instruction. Where the row excuses, a late tick first empties the ages, so that it adds no cause
-- and closes nothing; a from-event of its own opens. `passes` says that the ages at the start still live: no to-event came so far,
-- and no excuse. `closes` says that a to-event came while a from-event of an earlier tick was open.
unfoldable pub watched : Rules → Watch → Tick → Watch
watched r w t =
    let aged = if t.late then w.ages else older r.max w.ages in
    let excused = t.late && r.excuses in
    record {
      from = unwrap_or t.from w.from;
      to = unwrap_or t.to w.to;
      ages = after_events (excused || closes r w t) (opens r w t) aged;
      causes = if excused then w.causes else joined w.causes (tick_causes r t.late (closes r w t) w.ages aged);
      from_edge = w.from_edge || opens r w t;
      closes = w.closes || (closes r w t && (not excused && is_open aged));
      passes = w.passes && not (excused || closes r w t);
    }

-- At the start of a course. Where ways through the row are left out, no age lives on.
abbrev pub start : (left_out : Bool) → Context → Ages → Watch
start left_out k ages = record {
  from = k.from;
  to = k.to;
  ages = if left_out then Empty else ages;
  causes = no_causes;
  from_edge = false;
  closes = false;
  passes = not left_out;
}

-- at the end of a course
abbrev pub followed : Rules → List Tick → Watch → Watch
followed r ticks w = fold (watched r) w ticks
