-- Up to where a run keeps what a span assumes of X and Y, by what the machines did, and what the span measures up to there.
--   misses             the machine finishes one that doesn't
--   nothing_missed     what is known before the first clock
--   assumed_after      what is known after one clock more
--   assumed_from       what is known after more clocks
--   is_over_before     X and Y are no longer as assumed
--   assumed_up_to      the clock in which that comes
--   marks_before       the marks of the clocks before it
--   spoken_seen        what a span measures in them
use Rattle.std.specs.Prelude.{ℕ, suc, Bool, false, not, ◌&&◌, ◌||◌, Option, Some, None, option_map, List, [], ◌∷◌, length, max, nat_lt, take, if◌then◌else◌}
use Rattle.pin_matrix.specs.Assumptions.{keeps}
use Rattle.pin_matrix.specs.declared.assume.Assumption.{Assumption}
use Rattle.block_core.specs.declared.conduct.Conduct.{Conduct}
use Rattle.block_core.specs.declared.conduct.MachineConduct.{MachineConduct}
use Rattle.span_meter.specs.declared.assumed.Assumed.{Assumed}
use Rattle.span_meter.specs.declared.pins.ShownPins.{ShownPins}
use Rattle.span_meter.specs.declared.seen.SeenDistances.{SeenDistances}
use Rattle.span_meter.specs.Events.{SpanEvents, conduct_of, marks}
use Rattle.span_meter.specs.Measured.{seen_of}
use Rattle.span_meter.specs.Spoken.{Mark, spoken}

-- the machine finishes the instruction in memory at its PC, and leaves X or Y otherwise than assumed
abbrev pub misses : List Assumption → MachineConduct → Bool
misses assume m = m.finishes && not (keeps assume m.pc m.x m.y)

-- before the first clock: nothing is missed, and no end of a delay is told
abbrev pub nothing_missed : Assumed
nothing_missed = record { missed = false; rests = None }

-- a delay is over before this clock, as far as its end is told
abbrev pub ends_before : (clock : ℕ) → Option ℕ → Bool
ends_before clock None = false
ends_before clock (Some rests) = nat_lt rests clock

-- Before this clock an assumption was missed, and then the delay was over.
abbrev pub is_over_before : (clock : ℕ) → Assumed → Bool
is_over_before clock a = a.missed && ends_before clock a.rests

-- the end of a delay as it is told of a clock: in that clock or a later one
abbrev pub not_before : (clock : ℕ) → Option ℕ → Option ℕ
not_before clock rests = option_map (max clock) rests

-- What is known after a clock in which the machine did this, if it is told of. Once X and Y are no longer as assumed, no clock changes
-- that.
abbrev pub assumed_where : List Assumption → (clock : ℕ) → Option MachineConduct → Assumed → Assumed
assumed_where assume clock None a = a
assumed_where assume clock (Some m) a =
    if is_over_before clock a then a
    else record { missed = a.missed || misses assume m; rests = not_before clock m.rests }

-- what is known after one clock more
abbrev pub assumed_after : SpanEvents → (clock : ℕ) → Conduct → Assumed → Assumed
assumed_after e clock c a = assumed_where e.assume clock (conduct_of clock e.machine c) a

-- what is known after some clocks from this one on
unfoldable pub assumed_from : SpanEvents → (clock : ℕ) → Assumed → List Conduct → Assumed
assumed_from e clock a [] = a
assumed_from e clock a (c ∷ rest) = assumed_from e (suc clock) (assumed_after e clock c a) rest

-- the clock in which X and Y are no longer as assumed, where it is before this one
abbrev pub end_before : (clock : ℕ) → Assumed → Option ℕ
end_before clock a = if is_over_before clock a then a.rests else None

-- The clock up to which the span speaks: in it the delay is over after an instruction that left X or Y otherwise than assumed. There
-- is none where all clocks are as assumed.
unfoldable pub assumed_up_to : SpanEvents → List Conduct → Option ℕ
assumed_up_to e told = end_before (length told) (assumed_from e 0 nothing_missed told)

-- the marks of the clocks before an end, if there is one
abbrev pub marks_before : (end : Option ℕ) → List Mark → List Mark
marks_before None ks = ks
marks_before (Some end) ks = take end ks

-- What a span measures in clocks of which this is told, with these pins before them: the pairs of which it speaks in the clocks before
-- X and Y are no longer as assumed, and the clock in which they aren't.
unfoldable pub spoken_seen : SpanEvents → ShownPins → List Conduct → SeenDistances
spoken_seen e pins told =
    let end = assumed_up_to e told in record (seen_of (spoken (marks_before end (marks e 0 pins told)))) { assumed = end }
