-- When a transmitter sends what one feed gives it from clock 0 on.
--   frames_fed       the frames that are whole by some clock
--   SendsInTime      so it is
--   SendsAll         in the end all words are sent
use Rattle.std.specs.Prelude.{◌≡◌, ℕ, ◌+◌, ◌*◌, ◌%◌, ◌<◌, true, List, [], ◌∷◌, length, map, nat_lt, if◌then◌else◌}
use Rattle.pin_matrix.specs.declared.setup.Setup.{Setup}
use Rattle.serial_receiver.specs.declared.frame.Frame.{Frame}
use Rattle.pio_uart.specs.Sending.{frames_in}
pub use Rattle.program_runs.specs.Feeding.{fed}

-- Frame j of these words and those after it, as far as their stop bits are read before the last of these clocks, with
-- a tick every `int` clocks. The first word is pulled at tick 1, and a frame begins eight ticks after its word is
-- pulled. A frame with its stop bit is 80 ticks, and its stop bit is read 76 ticks after it begins.
abbrev pub frames_fed : (int clocks j : ℕ) → List ℕ → List Frame
frames_fed int clocks j [] = []
frames_fed int clocks j (word ∷ words) =
    if nat_lt (int * (85 + 80 * j)) clocks
    then record { start = int * (9 + 80 * j); byte = word % 256; good = true } ∷ frames_fed int clocks (j + 1) words
    else []

-- The frames of the run are exactly those, whatever is fed and up to every clock.
abbrev pub SendsInTime : (int : ℕ) → Setup → Type 0
SendsInTime int u = (words : List ℕ) (n : ℕ) → frames_in u (fed words) (8 * int) n ≡ frames_fed int n 0 words

-- Where the clocks are enough for the stop bit of the last word, the frames are those of all words.
abbrev pub SendsAll : (int : ℕ) → Setup → Type 0
SendsAll int u =
    (words : List ℕ) (n : ℕ) → int * (80 * length words + 5) < n
    → map (λ f. f.byte) (frames_in u (fed words) (8 * int) n) ≡ map (λ word. word % 256) words
