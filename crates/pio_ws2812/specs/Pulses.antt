-- The pulses on one pin, and the bits that they are to a WS2812 light. All times are in clocks.
--   Pulse          a rise, and how long the pin is high and then low
--   highs, lows    how many of the first levels are high, or low
--   pulses_from    the pulses that begin at a clock or later
--   pulses         all pulses
--   bits_read      the bits that they are
use Rattle.std.specs.Prelude.{ℕ, suc, ◌+◌, ◌==◌, ◌&&◌, Bool, true, false, not, List, [], ◌∷◌, drop, nat_lt, if◌then◌else◌}

-- The pin rises in a clock, is high for so many clocks, and low for so many after them, up to the next rise or the end.
pub record Pulse : Type 0 where
  pub start : ℕ
  pub high : ℕ
  pub low : ℕ

-- how many of the first levels are high
abbrev pub highs : List Bool → ℕ
highs [] = 0
highs (true ∷ rest) = suc (highs rest)
highs (false ∷ rest) = 0

-- how many of the first levels are low
abbrev pub lows : List Bool → ℕ
lows [] = 0
lows (true ∷ rest) = 0
lows (false ∷ rest) = suc (lows rest)

-- the pulse that begins with the first of these levels, which is that after this clock
abbrev pub pulse_at : (clock : ℕ) → List Bool → Pulse
pulse_at clock levels = record { start = clock; high = highs levels; low = lows (drop (highs levels) levels) }

-- the level rises
abbrev pub rises : (before level : Bool) → Bool
rises before level = not before && level

-- The pulses in these levels, of which the first is that after clock `clock`; before it the level is `before`. Each rise begins one.
unfoldable pub pulses_from : (clock : ℕ) → (before : Bool) → List Bool → List Pulse
pulses_from clock before [] = []
pulses_from clock before (level ∷ rest) =
    if rises before level then pulse_at clock (level ∷ rest) ∷ pulses_from (clock + 1) level rest else pulses_from (clock + 1) level rest

-- The pulses in the levels after each clock from 0 on, with this level before clock 0.
abbrev pub pulses : (before : Bool) → List Bool → List Pulse
pulses before levels = pulses_from 0 before levels

-- The bits of pulses: 1 where the pin is high for more clocks than the bound. A pulse that the pin hasn't ended isn't read, and none
-- after it. (WS2812B datasheet, "Data transfer time": a bit is told by the length of its high alone.)
abbrev pub bits_read : (bound : ℕ) → List Pulse → List Bool
bits_read bound [] = []
bits_read bound (p ∷ ps) = if p.low == 0 then [] else nat_lt bound p.high ∷ bits_read bound ps
