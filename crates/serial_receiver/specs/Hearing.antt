-- What a receiver keeps while it hears, and what it has told its sink: the trace's own words.
--   first_heard    how it tells its callers which pin, bit and level it hears
--   HasReadBits    what is known of a frame that isn't ended
--   Hears          the state of a line after some levels
--   Heard          what more levels bring
--   Receives       the trace after some samples
use Rattle.std.specs.Prelude.{◌≡◌, ℕ, suc, ◌+◌, ◌<◌, ◌≤◌, Bool, true, false, Option, Some, None, List, [], ◌∷◌, ◌++◌, length}
use Rattle.block_core.specs.declared.sample.Sample.{Sample}
use Rattle.pio_edge.specs.Edge.{with_bytes}
use Rattle.serial_receiver.specs.declared.frame.Frame.{Frame}
use Rattle.serial_receiver.specs.declared.begun.Begun.{Begun}
use Rattle.serial_receiver.specs.declared.line.LineSoFar.{LineSoFar}
use Rattle.serial_receiver.specs.declared.line.FrameProgress.{FrameProgress}
use Rattle.serial_receiver.specs.declared.line.FrameProgress.TheVariants.{Reads, Ends}
use Rattle.serial_receiver.specs.declared.line.Heard.{Heard}
use Rattle.serial_receiver.specs.Frames.{bits_read, falls, frame_at, frames, frames_from, level_in, levels_of, middle}
use Rattle.serial_receiver.specs.FrameText.{frames_text}

-- a level as a number
abbrev pub level_code : Bool → ℕ
level_code true = 1
level_code false = 0

-- bytes that may be untold, as numbers
abbrev pub taken_code : Option (List ℕ) → List ℕ
taken_code None = 0 ∷ []
taken_code (Some bytes) = 1 ∷ bytes

-- What a receiver names in the place of what its sink had taken: its pin, the clocks of a bit, the level before clock 0, and what
-- its sink had taken.
abbrev pub first_heard : (pin bit : ℕ) → (level : Bool) → (taken : Option (List ℕ)) → Option (List ℕ)
first_heard pin bit level taken = Some (pin ∷ bit ∷ level_code level ∷ taken_code taken)

-- Of a frame the level was read in the middle of the bits that are known, and of no other, where the levels of so many clocks from
-- its fall on are known.
pub record HasReadBits (bit : ℕ) (at : ℕ → Bool) (reached : ℕ) (o : Begun) : Type 0 where
  pub byte : o.byte ≡ bits_read at bit o.known
  pub next : reached ≤ middle bit o.known

-- the level is this one, from the one clock after the fall up to the other
abbrev pub Stays : (at : ℕ → Bool) → (old reached : ℕ) → Bool → Type 0
Stays at old reached level = (p : ℕ) → old ≤ p → p < reached → at p ≡ level

-- the frame goes on, or has ended
abbrev pub Proceeds : (bit : ℕ) (at : ℕ → Bool) (start reached : ℕ) → FrameProgress → Type 0
Proceeds bit at start reached (Reads o) = (o.start ≡ start) × HasReadBits bit at reached o
Proceeds bit at start reached (Ends f) = (f ≡ frame_at at bit start) × (middle bit 8 < reached)

-- a frame begins in a clock, by the level before and after it, or none does
abbrev pub Opens : (clock : ℕ) → (before level : Bool) → Option Begun → Type 0
Opens clock before level None = falls before level ≡ false
Opens clock before level (Some o) = (falls before level ≡ true) × (o.start ≡ clock) × (o.known ≡ 0) × (o.byte ≡ 0)

-- a line after a frame's progress
abbrev pub heard_of : FrameProgress → (last : Bool) → Heard
heard_of (Reads o) last = record { line = record { last = last; frame = Some o }; frame = None }
heard_of (Ends f) last = record { line = record { last = last; frame = None }; frame = Some f }

-- the last of some levels, with this level before them
abbrev pub level_after : Bool → List Bool → Bool
level_after before [] = before
level_after before (level ∷ rest) = level_after level rest

-- No frame is open after these levels: the frames of more levels are those so far and those that begin in the new ones.
abbrev pub HasNoOpenFrame : (bit : ℕ) (before : Bool) → List Bool → Type 0
HasNoOpenFrame bit before levels = (rest : List Bool) → frames bit before (levels ++ rest)
    ≡ frames bit before levels ++ frames_from bit 0 (length levels) (level_after before levels) rest

-- A frame is open after these levels: `seen` are those after its fall.
pub record IsOpen (bit : ℕ) (before : Bool) (levels : List Bool) (o : Begun) : Type 0 where
  pub seen : List Bool
  pub place : o.start + suc (length seen) ≡ length levels
  pub going : (rest : List Bool) → frames bit before (levels ++ rest)
      ≡ frames bit before levels ++ frames_from bit 0 o.start true (false ∷ (seen ++ rest))
  pub reading : (rest : List Bool) → HasReadBits bit (level_in (false ∷ (seen ++ rest))) (suc (length seen)) o

-- what is known after these levels, where a frame is open and where none is
abbrev pub IsPhase : (bit : ℕ) (before : Bool) → List Bool → Option Begun → Type 0
IsPhase bit before levels None = HasNoOpenFrame bit before levels
IsPhase bit before levels (Some o) = IsOpen bit before levels o

-- the state of a line after these levels
pub record Hears (bit : ℕ) (before : Bool) (levels : List Bool) (line : LineSoFar) : Type 0 where
  pub last : line.last ≡ level_after before levels
  pub phase : IsPhase bit before levels line.frame

-- a frame, where there is one
abbrev pub frame_list : Option Frame → List Frame
frame_list None = []
frame_list (Some f) = f ∷ []

-- more levels brought the line into this state, and the frame that ended in them
pub record Brings (bit : ℕ) (before : Bool) (levels more : List Bool) (heard : Heard) : Type 0 where
  pub state : Hears bit before (levels ++ more) heard.line
  pub ended : frames bit before (levels ++ more) ≡ frames bit before levels ++ frame_list heard.frame

-- The sink has taken the text of the frames in these samples, after what it had taken before. The receiver has this pin and this bit,
-- and its line is in their state.
pub record Receives (pin bit : ℕ) (level : Bool) (taken : Option (List ℕ)) (told : List Sample) (now : Option (List ℕ)) (p b : ℕ) (line : LineSoFar) : Type 0 where
  pub own_pin : p ≡ pin
  pub own_bit : b ≡ bit
  pub text : now ≡ with_bytes taken (frames_text (frames bit level (levels_of pin told)))
  pub heard : Hears bit level (levels_of pin told) line
