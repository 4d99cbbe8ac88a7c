-- What a meter keeps of spans that speak not of every pair, and what it says: the trace's own words.
--   SpokenMeters    what it keeps
--   clocks_gone     how many clocks have gone by
--   spoken_told     how it names to its callers which spans and pins it measures
--   AreTimely       what it is told of is done
--   HasSpoken       what it has measured
use Rattle.std.specs.Prelude.{◌≡◌, ℕ, suc, ◌^◌, ◌≤◌, Option, Some, None, List, [], ◌∷◌, length, map, if◌then◌else◌}
use Rattle.block_core.specs.declared.conduct.Conduct.{Conduct}
use Rattle.pin_matrix.specs.declared.assume.Assumption.{Assumption}
use Rattle.pin_matrix.specs.declared.assume.Range.{Range}
use Rattle.pin_matrix.specs.declared.span.Span.{Span}
use Rattle.span_meter.specs.declared.edges.Edges.{Edges}
use Rattle.span_meter.specs.declared.pins.ShownPins.{ShownPins}
use Rattle.span_meter.specs.declared.seen.SeenDistances.{SeenDistances}
use Rattle.span_meter.specs.declared.spoken_span.SpokenSpan.{SpokenSpan}
use Rattle.span_meter.specs.Assumed.{assumed_after, assumed_from, assumed_up_to, end_before, is_over_before, marks_before, nothing_missed, spoken_seen}
use Rattle.span_meter.specs.Events.{SpanEvent, SpanEvents, events_in, mark_of, marks, pins_told}
use Rattle.span_meter.specs.Meters.{fresh, rise_code, seen_by, signal_code}
use Rattle.span_meter.specs.Spoken.{MeasuresMarks, after_mark}

-- the pins before the first clock and after the last, the last clock that has gone by, the spans, and what is known of each
pub record SpokenMeters : Type 0 where
  pub first : ShownPins
  pub last : ShownPins
  pub gone : Option ℕ
  pub spans : List Span
  pub known : List SpokenSpan

-- how many clocks have gone by
abbrev pub clocks_gone : (last : Option ℕ) → ℕ
clocks_gone None = 0
clocks_gone (Some clock) = suc clock

-- what is known of a span before the first clock
abbrev pub fresh_spoken : Edges → SpokenSpan
fresh_spoken e = record { meter = fresh e; assumed = nothing_missed }

-- what is said of one span after so many clocks
abbrev pub seen_spoken : (clocks : ℕ) → SpokenSpan → SeenDistances
seen_spoken clocks s = record (seen_by s.meter) { assumed = end_before clocks s.assumed }

-- what is said of all
abbrev pub spoken_so_far : SpokenMeters → List SeenDistances
spoken_so_far t = map (seen_spoken (clocks_gone t.gone)) t.known

-- addresses as numbers, with an end, and more numbers after them
abbrev pub addresses_code : List ℕ → (more : List ℕ) → List ℕ
addresses_code [] more = 0 ∷ more
addresses_code (a ∷ addresses) more = suc a ∷ addresses_code addresses more

-- an event as numbers
abbrev pub event_code : SpanEvent → (more : List ℕ) → List ℕ
event_code e more = e.pin ∷ signal_code e.signal ∷ rise_code e.rise ∷ addresses_code e.at more

-- a range as numbers
abbrev pub range_code : Option Range → (more : List ℕ) → List ℕ
range_code None more = 0 ∷ more
range_code (Some r) more = suc r.lo ∷ r.hi ∷ more

-- assumptions as numbers, with an end
abbrev pub assume_code : List Assumption → (more : List ℕ) → List ℕ
assume_code [] more = 0 ∷ more
assume_code (a ∷ assume) more = suc a.address ∷ range_code a.x (range_code a.y (assume_code assume more))

-- the events of spans as numbers, with what they don't speak of
abbrev pub events_code : List SpanEvents → List ℕ
events_code [] = []
events_code (e ∷ es) =
    e.machine ∷ rise_code e.prompt ∷ rise_code e.cut
    ∷ addresses_code e.stalls (addresses_code e.without (event_code e.from (event_code e.to (assume_code e.assume (events_code es)))))

-- A meter has no sink. In the place of what a sink had taken it names the pins before the first clock and what it looks for.
abbrev pub spoken_told : ShownPins → List SpanEvents → Option (List ℕ)
spoken_told pins events = Some (pins.level ∷ pins.direction ∷ events_code events)

-- What is known of a span after a clock, by the pins before it and what is told after it: the clock counts where X and Y are as
-- assumed up to its end.
abbrev pub after_told : (clock : ℕ) → (before : ShownPins) → Conduct → Span → SpokenSpan → SpokenSpan
after_told clock before c sp s =
    let e = events_in sp in
    let assumed = assumed_after e clock c s.assumed in
    record {
      meter = if is_over_before (suc clock) assumed then s.meter else after_mark clock (mark_of e clock before c) s.meter;
      assumed = assumed;
    }

-- what is known of these spans after it
abbrev pub tell_each : (clock : ℕ) → (before : ShownPins) → Conduct → List Span → List SpokenSpan → List SpokenSpan
tell_each clock before c [] known = known
tell_each clock before c (sp ∷ spans) [] = []
tell_each clock before c (sp ∷ spans) (s ∷ known) = after_told clock before c sp s ∷ tell_each clock before c spans known

-- the pins after clocks, with these before them
unfoldable pub pins_after_told : ShownPins → List Conduct → ShownPins
pins_after_told before [] = before
pins_after_told before (c ∷ rest) = pins_after_told (pins_told c) rest

-- After each clock from this one on it is told of a clock that is over.
abbrev pub AreTimely : (clock : ℕ) → List Conduct → Type 0
AreTimely clock [] = Unit {0}
AreTimely clock (c ∷ rest) = (c.clock ≤ clock) × AreTimely (suc clock) rest

-- What was measured of a span in the clocks that were told, with these pins before them.
pub record MeasuresSpoken (e : SpanEvents) (pins : ShownPins) (told : List Conduct) (s : SpokenSpan) : Type 0 where
  pub assumed : s.assumed ≡ assumed_from e 0 nothing_missed told
  pub measures : MeasuresMarks (marks_before (assumed_up_to e told) (marks e 0 pins told)) s.meter

-- so it is of each span
abbrev pub EachMeasures : ShownPins → (told : List Conduct) → List Span → List SpokenSpan → Type 0
EachMeasures pins told [] [] = Unit {0}
EachMeasures pins told [] (s ∷ known) = ⊥
EachMeasures pins told (sp ∷ spans) [] = ⊥
EachMeasures pins told (sp ∷ spans) (s ∷ known) = MeasuresSpoken (events_in sp) pins told s × EachMeasures pins told spans known

-- What a meter says of the clocks that it was told of, with these pins before them: of each span exactly what it measures in them.
pub record HasSpoken (pins : ShownPins) (events : List SpanEvents) (told : List Conduct) (t : SpokenMeters) : Type 0 where
  pub first : t.first ≡ pins
  pub last : t.last ≡ pins_after_told pins told
  pub gone : clocks_gone t.gone ≡ length told
  pub few : length told ≤ 2 ^ 64
  pub watches : map events_in t.spans ≡ events
  pub each : EachMeasures pins told t.spans t.known
  pub seen : spoken_so_far t ≡ map (λ e. spoken_seen e pins told) events
