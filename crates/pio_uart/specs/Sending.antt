-- What it means that a transmitter sends what it is fed.
--   frames_in          the frames on pin 0 in a run
--   IsFirstPart        a list begins with another one
--   IsSent             frames are those of words
--   SendsWhatItIsFed   so it is in every run
use Rattle.std.specs.Prelude.{◌≡◌, ℕ, ◌%◌, true, List, ◌++◌, map}
use Rattle.std.specs.List.{AllByRecursion}
use Rattle.pin_matrix.specs.declared.setup.Setup.{Setup}
use Rattle.pin_matrix.specs.Pins.{is_high}
use Rattle.dreq_pacing.specs.declared.line.Line.{Line}
use Rattle.block_core.specs.Block.{first_run}
use Rattle.block_core.specs.Hosted.{samples}
use Rattle.serial_receiver.specs.declared.frame.Frame.{Frame}
use Rattle.serial_receiver.specs.Frames.{frames, levels_of}
use Rattle.program_runs.specs.Accepted.{accepted}
pub use Rattle.program_runs.specs.Steady.{is_steady, IsSteady}

-- the frames that a serial receiver hears on pin 0 in the first n clocks of a setup's run with these lines, where a
-- bit takes so many clocks
abbrev pub frames_in : Setup → List Line → (bit n : ℕ) → List Frame
frames_in u lines bit n = frames bit (is_high u.level 0) (levels_of 0 (samples (first_run u) lines n))

-- A list begins with another one.
pub record IsFirstPart (part whole : List ℕ) : Type 0 where
  pub rest : List ℕ
  pub parts : whole ≡ part ++ rest

-- The frames are all good, and their bytes are the low bytes of the first words, in order.
pub record IsSent (words : List ℕ) (sent : List Frame) : Type 0 where
  pub good : AllByRecursion (λ f. f.good ≡ true) sent
  pub bytes : IsFirstPart (map (λ f. f.byte) sent) (map (λ word. word % 256) words)

-- Beside every stimulus that leaves the machines' ticks alone, and up to every clock, pin 0 sends the words that the
-- TX of machine 0 accepted, a byte each, where a bit takes so many clocks.
abbrev pub SendsWhatItIsFed : (bit : ℕ) → Setup → Type 0
SendsWhatItIsFed bit u =
    (lines : List Line) → IsSteady lines → (n : ℕ) → IsSent (accepted (first_run u) lines 0 n) (frames_in u lines bit n)
