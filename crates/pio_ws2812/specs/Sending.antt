-- What it means that a transmitter sends what it is fed.
--   word_bits          the bits of a word
--   pulses_in          the pulses on a pin in a run
--   IsFirstPart        a list begins with another one
--   low_after, IsLow   how long the pin is low after a pulse
--   IsSent             pulses are those of bits
--   SendsWhatItIsFed   so it is in every run
use Rattle.std.specs.Prelude.{◌≡◌, ℕ, zero, suc, ◌+◌, ◌-◌, ◌*◌, ◌<◌, ◌≤◌, ◌==◌, ◌⊎◌, Bool, true, false, List, [], ◌∷◌, ◌++◌, flat_map, nat_lt, if◌then◌else◌}
use Rattle.std.specs.List.{AllByRecursion}
use Rattle.pin_matrix.specs.declared.setup.Setup.{Setup}
use Rattle.pin_matrix.specs.Pins.{is_high}
use Rattle.dreq_pacing.specs.declared.line.Line.{Line}
use Rattle.block_core.specs.Block.{first_run}
use Rattle.program_runs.specs.Accepted.{accepted}
use Rattle.program_runs.specs.Levels.{levels_in}
use Rattle.program_runs.specs.Steady.{IsSteady}
use Rattle.program_runs.specs.Words.{AreWords}
use Rattle.pio_ws2812.specs.Pulses.{Pulse, pulses, bits_read}

-- so many bits of a word, from bit 31 - place down
unfoldable pub bits_down : (word place count : ℕ) → List Bool
bits_down word place zero = []
bits_down word place (suc count) = is_high word (31 - place) ∷ bits_down word (place + 1) count

-- the upper 24 bits of a word, the top one first: green, red and blue of a light (WS2812B datasheet, "Composition of 24bit data")
unfoldable pub word_bits : ℕ → List Bool
word_bits word = bits_down word 0 24

-- those of words in order
abbrev pub bits_of : List ℕ → List Bool
bits_of words = flat_map word_bits words

-- the pulses on a pin in the first n clocks of a setup's run with these lines
abbrev pub pulses_in : Setup → List Line → (pin n : ℕ) → List Pulse
pulses_in u lines pin n = pulses (is_high u.level pin) (levels_in u lines pin n)

-- A list begins with another one.
pub record IsFirstPart (part whole : List Bool) : Type 0 where
  pub rest : List Bool
  pub parts : whole ≡ part ++ rest

-- how long the pin is high for a bit, with a tick every `int` clocks: two ticks or seven
abbrev pub high_of : (int : ℕ) → Bool → ℕ
high_of int bit = if bit then 7 * int else 2 * int

-- how long it is low after it, where the next bit follows at once: a bit takes ten ticks
abbrev pub low_of : (int : ℕ) → Bool → ℕ
low_of int bit = if bit then 3 * int else 8 * int

-- how long the pin is low after a pulse: as after a 1 where it is high for more than two ticks, else as after a 0
abbrev pub low_after : (int : ℕ) → Pulse → ℕ
low_after int p = low_of int (nat_lt (2 * int) p.high)

-- it is low for so long, or after the last bit of a word for longer
abbrev pub IsLow : (last : Bool) → (low least : ℕ) → Type 0
IsLow true low least = least ≤ low
IsLow false low least = low ≡ least

-- the same of the last pulse, which the end may cut off
abbrev pub IsLastLow : (last : Bool) → (low most : ℕ) → Type 0
IsLastLow true low most = Unit {0}
IsLastLow false low most = low ≤ most

-- pulses in order, of which the first is that of bit `place` of its word: only after bit 23, its last, the pin may be low for longer
abbrev pub AreLows : (int place : ℕ) → List Pulse → Type 0
AreLows int place [] = Unit {0}
AreLows int place (p ∷ []) = IsLastLow (place == 23) p.low (low_after int p)
AreLows int place (p ∷ q ∷ ps) = IsLow (place == 23) p.low (low_after int p) × AreLows int (if place == 23 then 0 else place + 1) (q ∷ ps)

-- The pulses of bits, of which the first is bit `place` of its word. Each that the pin has ended is as long as that of a bit. To a light
-- that tells the bits by a bound between the two lengths, they are the first of these bits, in order.
pub record IsSent (int place : ℕ) (bits : List Bool) (sent : List Pulse) : Type 0 where
  pub high : AllByRecursion (λ p. 1 ≤ p.low → (p.high ≡ 2 * int) ⊎ (p.high ≡ 7 * int)) sent
  pub low : AreLows int place sent
  pub read : (bound : ℕ) → 2 * int ≤ bound → bound < 7 * int → IsFirstPart (bits_read bound sent) bits

-- Beside every stimulus that leaves the machines' ticks alone, and up to every clock, the pin sends the upper 24 bits of each word that
-- the TX of machine 0 accepted.
abbrev pub SendsWhatItIsFed : (int pin : ℕ) → Setup → Type 0
SendsWhatItIsFed int pin u =
    (lines : List Line) → IsSteady lines → AreWords lines → (n : ℕ)
    → IsSent int 0 (bits_of (accepted (first_run u) lines 0 n)) (pulses_in u lines pin n)
