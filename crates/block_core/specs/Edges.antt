-- Edges of a pin, by output levels.
--   changes    a level changes in a direction
--   has_edge   an edge of a pin in a clock
use Rattle.std.specs.Prelude.{ℕ, Bool, true, false, not, ◌&&◌}
use Rattle.pin_matrix.specs.Pins.{is_high}

-- the level changes in this direction: it rises, or it falls
abbrev pub changes : (rise before after : Bool) → Bool
changes true before after = not before && after
changes false before after = before && not after

-- an edge of a pin in a clock, by the output levels before and after it; pads and directions don't matter
abbrev pub has_edge : (pin : ℕ) (rise : Bool) → (before after : ℕ) → Bool
has_edge pin rise before after = changes rise (is_high before pin) (is_high after pin)
