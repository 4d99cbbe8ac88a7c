-- Worked rows: what spans measure, worked out by hand.
use Rattle.std.proofs.Common.{◌≡◌, ℕ, true, false, Some, None, List, [], ◌∷◌, map, refl}
use Rattle.pin_matrix.specs.declared.span.PinSignal.TheVariants.{Level, Direction}
use Rattle.block_core.specs.declared.sample.Sample.{Sample}
use Rattle.span_meter.specs.declared.pins.ShownPins.{ShownPins}
use Rattle.span_meter.specs.Measured.{SpanEdges, clocks_to, measured, seen_of}

-- a sample with these output levels
abbrev shown : ℕ → Sample
shown levels = record { level = levels; direction = 0; flags = 0; tx = []; rx = []; got = []; sticky = [] }

-- the pins before them: all low, and all inputs
abbrev quiet : ShownPins
quiet = record { level = 0; direction = 0 }

-- a square wave of two clocks a level, from clock 1 on
abbrev square : List Sample
square = map shown (0 ∷ 1 ∷ 1 ∷ 0 ∷ 0 ∷ 1 ∷ 1 ∷ 0 ∷ 0 ∷ 1 ∷ 1 ∷ [])

-- from a rise of pin 0 to its fall
abbrev high : SpanEdges
high = record { from_pin = 0; from_signal = Some Level; from_rise = true; to_pin = 0; to_signal = Some Level; to_rise = false }

-- Both falls that come are two clocks after their rises. The last rise has none.
the_high_time : measured high quiet square ≡ 2 ∷ 2 ∷ []
unfolding measured clocks_to
the_high_time = refl

-- in the first two clocks there is a rise and no fall
no_fall_yet : measured high quiet (map shown (0 ∷ 1 ∷ [])) ≡ []
unfolding measured clocks_to
no_fall_yet = refl

-- from rise to rise a span measures periods: the to-edge isn't the from-edge itself
the_period : measured (record { from_pin = 0; from_signal = Some Level; from_rise = true; to_pin = 0; to_signal = Some Level; to_rise = true }) quiet square ≡ 4 ∷ 4 ∷ []
unfolding measured clocks_to
the_period = refl

-- two rises of pin 0 share the first rise of pin 1 after them
a_shared_end : measured (record { from_pin = 0; from_signal = Some Level; from_rise = true; to_pin = 1; to_signal = Some Level; to_rise = true }) quiet (map shown (1 ∷ 0 ∷ 1 ∷ 1 ∷ 3 ∷ 1 ∷ 2 ∷ [])) ≡ 4 ∷ 2 ∷ []
unfolding measured clocks_to
a_shared_end = refl

-- where the span has the end of an instruction in place of its from-edge, or of its to-edge, no edge comes
no_from_edge : measured (record high { from_signal = None }) quiet square ≡ []
unfolding measured clocks_to
no_from_edge = refl

no_to_edge : measured (record high { to_signal = None }) quiet square ≡ []
unfolding measured clocks_to
no_to_edge = refl

-- a level that is high before clock 0 has no rise in it
high_before : measured high (record { level = 1; direction = 0 }) (map shown (1 ∷ 0 ∷ 1 ∷ 0 ∷ [])) ≡ 1 ∷ []
unfolding measured clocks_to
high_before = refl

-- how many, the least and the greatest
in_numbers : seen_of (4 ∷ 2 ∷ 3 ∷ []) ≡ record { pairs = 3; least = 2; most = 4; assumed = None }
in_numbers = refl

none_in_numbers : seen_of [] ≡ record { pairs = 0; least = 0; most = 0; assumed = None }
none_in_numbers = refl

-- a sample with these directions
abbrev turned : ℕ → Sample
turned directions = record { level = 0; direction = directions; flags = 0; tx = []; rx = []; got = []; sticky = [] }

-- from pin 0 becoming an output to its becoming an input
abbrev driven : SpanEdges
driven = record { from_pin = 0; from_signal = Some Direction; from_rise = true; to_pin = 0; to_signal = Some Direction; to_rise = false }

-- it is an output for two clocks, and for three
the_driven_time : measured driven quiet (map turned (0 ∷ 1 ∷ 1 ∷ 0 ∷ 3 ∷ 3 ∷ 1 ∷ 2 ∷ [])) ≡ 2 ∷ 3 ∷ []
unfolding measured clocks_to
the_driven_time = refl

-- a pin that is an output before clock 0 doesn't become one in it
out_before : measured driven (record { level = 0; direction = 1 }) (map turned (1 ∷ 0 ∷ 1 ∷ 0 ∷ [])) ≡ 1 ∷ []
unfolding measured clocks_to
out_before = refl

-- levels are no directions, and directions no levels
no_direction : measured driven quiet square ≡ []
unfolding measured clocks_to
no_direction = refl

no_level : measured high quiet (map turned (0 ∷ 1 ∷ 1 ∷ 0 ∷ [])) ≡ []
unfolding measured clocks_to
no_level = refl

-- from a rise of pin 0 to its becoming an input, two clocks later
let_go : measured (record { from_pin = 0; from_signal = Some Level; from_rise = true; to_pin = 0; to_signal = Some Direction; to_rise = false }) (record { level = 0; direction = 1 })
    (record (shown 1) { direction = 1 } ∷ record (shown 0) { direction = 1 } ∷ record (shown 0) { direction = 0 } ∷ []) ≡ 2 ∷ []
unfolding measured clocks_to
let_go = refl
