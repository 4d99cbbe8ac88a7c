-- What the edges of a span measure in samples, in clocks.
--   SpanEdges      the edges that a span goes between
--   signal_of      of the pins, the watched signal
--   pins_after     the pins after samples
--   clocks_to      how many clocks pass before the first to-edge
--   measured       the clocks from each from-edge to the first to-edge after it
--   seen_of        how many there are, the least and the greatest
use Rattle.std.specs.Prelude.{ℕ, suc, Bool, Option, Some, None, List, [], ◌∷◌, length, min, max, if◌then◌else◌}
use Rattle.std.specs.Option.{option_map}
use Rattle.pin_matrix.specs.Spans.{signal_bits}
use Rattle.pin_matrix.specs.declared.span.PinSignal.{PinSignal}
use Rattle.pin_matrix.specs.declared.span.Span.{Span}
use Rattle.block_core.specs.declared.sample.Sample.{Sample}
use Rattle.block_core.specs.Block.{BlockState}
use Rattle.block_core.specs.Edges.{has_edge}
use Rattle.span_meter.specs.declared.pins.ShownPins.{ShownPins}
use Rattle.span_meter.specs.declared.seen.SeenDistances.{SeenDistances}

-- The edges that a span goes between: each a rise of a pin, whose level rises or whose direction becomes out, or else a fall. None comes
-- where no signal is watched, since the span has the end of an instruction there.
pub record SpanEdges : Type 0 where
  pub from_pin : ℕ
  pub from_signal : Option PinSignal
  pub from_rise : Bool
  pub to_pin : ℕ
  pub to_signal : Option PinSignal
  pub to_rise : Bool

-- those of a span of a configuration
abbrev pub ends_in : Span → SpanEdges
ends_in sp = record {
  from_pin = sp.from_pin;
  from_signal = sp.from_signal;
  from_rise = sp.from_rise;
  to_pin = sp.to_pin;
  to_signal = sp.to_signal;
  to_rise = sp.to_rise;
}

-- the pins that a sample shows
abbrev pub pins_of : Sample → ShownPins
pins_of s = record { level = s.level; direction = s.direction }

-- the pins of a block
abbrev pub pins_in : BlockState → ShownPins
pins_in b = record { level = b.levels; direction = b.directions }

-- of all pins, the watched signal
abbrev pub signal_of : Option PinSignal → ShownPins → ℕ
signal_of watched p = signal_bits watched p.level p.direction

-- the pins after samples, with these before them
unfoldable pub pins_after : ShownPins → List Sample → ShownPins
pins_after before [] = before
pins_after before (s ∷ rest) = pins_after (pins_of s) rest

-- the from-edge comes in this clock
abbrev pub is_from : SpanEdges → (before after : ShownPins) → Bool
is_from e before after = has_edge e.from_pin e.from_rise (signal_of e.from_signal before) (signal_of e.from_signal after)

-- the to-edge comes in this clock
abbrev pub is_to : SpanEdges → (before after : ShownPins) → Bool
is_to e before after = has_edge e.to_pin e.to_rise (signal_of e.to_signal before) (signal_of e.to_signal after)

-- how many of these clocks pass before the one in which the first to-edge comes, with these pins before them
unfoldable pub clocks_to : SpanEdges → (before : ShownPins) → List Sample → Option ℕ
clocks_to e before [] = None
clocks_to e before (s ∷ rest) = if is_to e before (pins_of s) then Some 0 else option_map suc (clocks_to e (pins_of s) rest)

-- One distance more, where a to-edge comes so many clocks after the next clock.
abbrev pub with_distance : Option ℕ → List ℕ → List ℕ
with_distance None distances = distances
with_distance (Some between) distances = suc between ∷ distances

-- For each clock with a from-edge, in order, how many clocks later the first to-edge after it comes. A from-edge after which none
-- comes has no distance. Before the first sample the pins are these.
unfoldable pub measured : SpanEdges → (before : ShownPins) → List Sample → List ℕ
measured e before [] = []
measured e before (s ∷ rest) =
    if is_from e before (pins_of s) then with_distance (clocks_to e (pins_of s) rest) (measured e (pins_of s) rest) else measured e (pins_of s) rest

-- the least of a distance and those after it
abbrev pub least_with : ℕ → List ℕ → ℕ
least_with d [] = d
least_with d (next ∷ rest) = min d (least_with next rest)

-- the least distance, 0 where there is none
abbrev pub least_of : List ℕ → ℕ
least_of [] = 0
least_of (d ∷ rest) = least_with d rest

-- the greatest distance, 0 where there is none
abbrev pub greatest_of : List ℕ → ℕ
greatest_of [] = 0
greatest_of (d ∷ rest) = max d (greatest_of rest)

-- how many distances there are, the least and the greatest, with no end of what is assumed
abbrev pub seen_of : List ℕ → SeenDistances
seen_of distances = record { pairs = length distances; least = least_of distances; most = greatest_of distances; assumed = None }
