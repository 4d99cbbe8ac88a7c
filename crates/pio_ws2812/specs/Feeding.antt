-- When a transmitter sends what one feed gives it from clock 0 on.
--   pulses_fed       the pulses by some clock
--   SendsInTime      so it is
--   SendsAll         in the end all bits are read
use Rattle.std.specs.Prelude.{◌≡◌, ℕ, ◌+◌, ◌-◌, ◌*◌, ◌^◌, ◌<◌, ◌≤◌, Bool, List, [], ◌∷◌, length, min, nat_lt, if◌then◌else◌}
use Rattle.std.specs.List.{AllByRecursion}
use Rattle.pin_matrix.specs.declared.setup.Setup.{Setup}
use Rattle.program_runs.specs.Feeding.{fed}
use Rattle.pio_ws2812.specs.Pulses.{Pulse, bits_read}
use Rattle.pio_ws2812.specs.Sending.{bits_of, high_of, low_of, pulses_in}

-- how long the pin is low after a bit, where so many clocks are left: the last bit's low has no end
abbrev pub low_fed : (int clocks : ℕ) → (bit : Bool) → (more : List Bool) → ℕ
low_fed int clocks bit [] = clocks
low_fed int clocks bit (next ∷ more) = min (low_of int bit) clocks

-- The pulses of bit j and those after it, as far as they begin before the last of these clocks, with a tick every `int` clocks. The
-- first word is taken at tick 1, its first bit is shifted out at tick 2, and the pin rises three ticks later. A bit is ten ticks. What is
-- after the last of the clocks is cut off.
abbrev pub pulses_fed : (int clocks j : ℕ) → List Bool → List Pulse
pulses_fed int clocks j [] = []
pulses_fed int clocks j (bit ∷ more) =
    let start = int * (5 + 10 * j) in
    if nat_lt start clocks
    then record { start = start; high = min (high_of int bit) (clocks - start); low = low_fed int (clocks - (start + high_of int bit)) bit more }
    ∷ pulses_fed int clocks (j + 1) more
    else []

-- Fed without a pause, all bits of the words are one frame: the pulses of the run are exactly those, up to every clock.
abbrev pub SendsInTime : (int pin : ℕ) → Setup → Type 0
SendsInTime int pin u =
    (words : List ℕ) → AllByRecursion (λ w. w < 2 ^ 32) words → (n : ℕ) → pulses_in u (fed words) pin n ≡ pulses_fed int n 0 (bits_of words)

-- Where the clocks are enough for the pulse of the last bit, a light reads all bits.
abbrev pub SendsAll : (int pin : ℕ) → Setup → Type 0
SendsAll int pin u =
    (words : List ℕ) → AllByRecursion (λ w. w < 2 ^ 32) words → (n : ℕ) → int * (240 * length words + 2) < n
    → (bound : ℕ) → 2 * int ≤ bound → bound < 7 * int → bits_read bound (pulses_in u (fed words) pin n) ≡ bits_of words
