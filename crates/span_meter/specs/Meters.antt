-- What a meter keeps, and what it says: the trace's own words.
--   Meters         what it keeps
--   first_told     how it tells its callers which spans and pins it measures
--   HasMeasured    what it has measured
--   closed_at, opened_at   a to-edge and a from-edge, as one span's meter counts them
use Rattle.std.specs.Prelude.{◌≡◌, ℕ, ◌+◌, ◌-◌, ◌^◌, ◌<◌, ◌≤◌, ◌==◌, Bool, true, false, Option, Some, None, List, [], ◌∷◌, ◌++◌, length, map, min, max, if◌then◌else◌}
use Rattle.std.specs.List.{AllByRecursion}
use Rattle.pin_matrix.specs.declared.span.PinSignal.{PinSignal}
use Rattle.pin_matrix.specs.declared.span.PinSignal.TheVariants.{Level, Direction}
use Rattle.block_core.specs.declared.sample.Sample.{Sample}
use Rattle.span_meter.specs.declared.edges.Edges.{Edges}
use Rattle.span_meter.specs.declared.meter.Meter.{Meter}
use Rattle.span_meter.specs.declared.pins.ShownPins.{ShownPins}
use Rattle.span_meter.specs.declared.seen.SeenDistances.{SeenDistances}
use Rattle.span_meter.specs.Kept.{ends_of}
use Rattle.span_meter.specs.Measured.{SpanEdges, clocks_to, greatest_of, is_from, is_to, least_of, measured, pins_after, seen_of}

-- the pins before the first sample and after the last, and a meter for each span
pub record Meters : Type 0 where
  pub first : ShownPins
  pub last : ShownPins
  pub meters : List Meter

-- the edges that its meters look for
abbrev pub watched : List Meter → List SpanEdges
watched meters = map (λ m. ends_of m.edges) meters

-- what one meter says
abbrev pub seen_by : Meter → SeenDistances
seen_by m = record { pairs = m.pairs; least = m.least; most = m.most; assumed = None }

-- what all say
abbrev pub seen_so_far : Meters → List SeenDistances
seen_so_far t = map seen_by t.meters

-- whether an edge rises, as a number
abbrev pub rise_code : Bool → ℕ
rise_code true = 1
rise_code false = 0

-- what is watched as a number: levels, directions or nothing
abbrev pub signal_code : Option PinSignal → ℕ
signal_code (Some Level) = 0
signal_code (Some Direction) = 1
signal_code None = 2

-- the edges of spans as numbers, six a span
abbrev pub ends_code : List SpanEdges → List ℕ
ends_code [] = []
ends_code (e ∷ es) =
    e.from_pin ∷ signal_code e.from_signal ∷ rise_code e.from_rise
    ∷ e.to_pin ∷ signal_code e.to_signal ∷ rise_code e.to_rise ∷ ends_code es

-- A meter has no sink. In the place of what a sink had taken it names the pins before the first sample and the edges that it
-- looks for.
abbrev pub first_told : ShownPins → List SpanEdges → Option (List ℕ)
first_told pins ends = Some (pins.level ∷ pins.direction ∷ ends_code ends)

-- the most that a count may be
abbrev pub most : ℕ
most = 2 ^ 64 - 1

-- a to-edge in this clock ends the pairs that are open
abbrev pub closing : (clock : ℕ) → Meter → Meter
closing clock m = record m {
  pairs = min (m.pairs + m.begun) most;
  least = if m.pairs == 0 then clock - m.last else min m.least (clock - m.last);
  most = max m.most (clock - m.first);
  begun = 0;
}

-- and does nothing where none is open
unfoldable pub closed_at : (clock : ℕ) → Meter → Meter
closed_at clock m = if m.begun == 0 then m else closing clock m

-- a from-edge in this clock opens one
unfoldable pub opened_at : (clock : ℕ) → Meter → Meter
opened_at clock m = record m {
  begun = min (m.begun + 1) most;
  first = if m.begun == 0 then clock else m.first;
  last = clock;
}

-- the to-edge ends the pairs that are open, where it comes
abbrev pub ended_where : (to : Bool) (clock : ℕ) → Meter → Meter
ended_where to clock m = if to then closed_at clock m else m

-- Then the from-edge opens a pair, where it comes: a pair has its to-edge after the clock of its from-edge.
abbrev pub moved : (to from : Bool) (clock : ℕ) → Meter → Meter
moved to from clock m = if from then opened_at clock (ended_where to clock m) else ended_where to clock m

-- one meter after a clock
unfoldable pub after_clock : (clock : ℕ) → (before after : ShownPins) → Meter → Meter
after_clock clock before after m = moved (is_to (ends_of m.edges) before after) (is_from (ends_of m.edges) before after) clock m

-- the meter of a span before the first sample
abbrev pub fresh : Edges → Meter
fresh e = record { edges = e; pairs = 0; least = 0; most = 0; begun = 0; first = 0; last = 0 }

-- the distances that a to-edge ends which comes so many clocks after these, from these clocks on
abbrev pub ended : (clock : ℕ) → List ℕ → Option ℕ → List ℕ
ended clock starts None = []
ended clock starts (Some later) = map (λ s. clock + later - s) starts

-- What one meter counts before clock n: these distances, and pairs that are open since these clocks.
pub record IsCountOf (distances starts : List ℕ) (n : ℕ) (m : Meter) : Type 0 where
  pub seen : seen_by m ≡ seen_of distances
  pub begun : m.begun ≡ min (length starts) most
  pub first : 0 < length starts → m.first ≤ m.last
  pub last : 0 < length starts → m.last < n
  pub greatest : (e : ℕ) → 0 < length starts → greatest_of (map (λ s. e - s) starts) ≡ e - m.first
  pub least : (e : ℕ) → 0 < length starts → least_of (map (λ s. e - s) starts) ≡ e - m.last

-- What one meter has measured. `starts` are the clocks of the from-edges after which no to-edge came yet: the distances in more
-- samples are those so far, those that end in them, and those that begin in them.
pub record Measures (e : SpanEdges) (pins : ShownPins) (told : List Sample) (m : Meter) : Type 0 where
  pub starts : List ℕ
  pub counts : IsCountOf (measured e pins told) starts (length told) m
  pub going : (rest : List Sample) → measured e pins (told ++ rest)
      ≡ measured e pins told
      ++ (ended (length told) starts (clocks_to e (pins_after pins told) rest) ++ measured e (pins_after pins told) rest)

-- What a meter says of the samples that it was told, with these pins before them: of each span exactly what it measures in them.
pub record HasMeasured (pins : ShownPins) (ends : List SpanEdges) (told : List Sample) (t : Meters) : Type 0 where
  pub first : t.first ≡ pins
  pub last : t.last ≡ pins_after pins told
  pub few : length told ≤ 2 ^ 64
  pub watches : watched t.meters ≡ ends
  pub each : AllByRecursion (λ m. Measures (ends_of m.edges) pins told m) t.meters
  pub seen : seen_so_far t ≡ map (λ e. seen_of (measured e pins told)) ends

-- a meter of these edges before the first sample
abbrev pub fresh_meters : ShownPins → List Edges → Meters
fresh_meters pins edges = record { first = pins; last = pins; meters = map fresh edges }
