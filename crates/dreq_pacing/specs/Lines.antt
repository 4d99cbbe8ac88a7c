-- What a stimulus is as a list of lines: each in its ranges, none before the clock of one in front of it, and none crowded
-- (choice of this profile).
--   IsLine      a line in its ranges
--   lines_in    the lines of a clock
--   IsSchedule  a list of lines that may be a stimulus
-- A block has four machines. Two blocks on the same pins share a stimulus that is read as one of eight machines, so the words
-- `IsActOf`, `IsLineOf` and `IsScheduleOf` have the number of machines.
use Rattle.std.specs.Prelude.{◌≡◌, ℕ, ◌+◌, ◌<◌, ◌≤◌, ◌==◌, ◌&&◌, ◌||◌, Bool, true, false, Option, Some, None, List, [], ◌∷◌, length, if◌then◌else◌}
use Rattle.std.specs.List.{AllByRecursion, list_any}
use Rattle.dreq_pacing.specs.declared.line.LineAct.{LineAct}
use Rattle.dreq_pacing.specs.declared.line.LineAct.TheVariants.{Pin, Tx, Rx, Feed, Drain, Enable, Disable, Restart}
use Rattle.dreq_pacing.specs.declared.line.Line.{Line}

-- the last clock that a line may have
abbrev pub last_clock : ℕ
last_clock = 1000000000000

-- the longest period of a transfer
abbrev pub longest_period : ℕ
longest_period = 1000000

-- what a line may do beside so many machines: pins are 0 to 31, machines below their number, periods 1 to 1,000,000, and a feed
-- has a word
abbrev pub IsActOf : ℕ → LineAct → Type 0
IsActOf machines (Pin pin level) = pin < 32
IsActOf machines (Tx machine word) = machine < machines
IsActOf machines (Rx machine) = machine < machines
IsActOf machines (Feed machine every words) = (machine < machines) × (1 ≤ every) × (every ≤ longest_period) × (1 ≤ length words)
IsActOf machines (Drain machine every) = (machine < machines) × (1 ≤ every) × (every ≤ longest_period)
IsActOf machines (Enable machine) = machine < machines
IsActOf machines (Disable machine) = machine < machines
IsActOf machines (Restart machine) = machine < machines

-- what a line may do beside one block, whose machines are 0 to 3
abbrev pub IsAct : LineAct → Type 0
IsAct a = IsActOf 4 a

-- A line in its ranges, beside so many machines.
pub record IsLineOf (machines : ℕ) (l : Line) : Type 0 where
  pub in_time : l.clock ≤ last_clock
  pub act : IsActOf machines l.act

-- a line in its ranges, beside one block
abbrev pub IsLine : Line → Type 0
IsLine l = IsLineOf 4 l

-- the place of a transfer among those of a file: each machine, of eight at most, may have one feed and one drain
abbrev pub transfer_of : LineAct → Option ℕ
transfer_of (Feed machine every words) = Some machine
transfer_of (Drain machine every) = Some (8 + machine)
transfer_of (Pin pin level) = None
transfer_of (Tx machine word) = None
transfer_of (Rx machine) = None
transfer_of (Enable machine) = None
transfer_of (Disable machine) = None
transfer_of (Restart machine) = None

-- the place of another access among those of a clock: each machine, of eight at most, may have one word, one read, one enabling
-- or disabling, and one restart
abbrev pub access_of : LineAct → Option ℕ
access_of (Tx machine word) = Some machine
access_of (Rx machine) = Some (8 + machine)
access_of (Enable machine) = Some (16 + machine)
access_of (Disable machine) = Some (16 + machine)
access_of (Restart machine) = Some (24 + machine)
access_of (Pin pin level) = None
access_of (Feed machine every words) = None
access_of (Drain machine every) = None

-- whether this is the place
abbrev pub is_place : ℕ → Option ℕ → Bool
is_place place None = false
is_place place (Some other) = other == place

-- whether the line is the transfer of this place
abbrev pub is_transfer : ℕ → Line → Bool
is_transfer place l = is_place place (transfer_of l.act)

-- whether the line is the access of this place in the clock
abbrev pub is_access : ℕ → ℕ → Line → Bool
is_access place clock l = (l.clock == clock) && is_place place (access_of l.act)

-- whether some line is the transfer of this place, where it is one
abbrev pub has_transfer : Option ℕ → List Line → Bool
has_transfer None lines = false
has_transfer (Some place) lines = list_any (is_transfer place) lines

-- whether some line is the access of this place in the clock, where it is one
abbrev pub has_access : Option ℕ → ℕ → List Line → Bool
has_access None clock lines = false
has_access (Some place) clock lines = list_any (is_access place clock) lines

-- whether a line is a second transfer of one kind and machine in the file, or a second access in its clock
abbrev pub is_crowded : List Line → Line → Bool
is_crowded before l = has_transfer (transfer_of l.act) before || has_access (access_of l.act) l.clock before

-- Whether a line may be in front of another: its clock isn't above, and the two don't crowd each other.
pub record MayPrecede (l k : Line) : Type 0 where
  pub in_order : l.clock ≤ k.clock
  pub apart : is_crowded (l ∷ []) k ≡ false

-- A stimulus of so many machines: lines in their ranges, of which each may be in front of those after it.
abbrev pub IsScheduleOf : ℕ → List Line → Type 0
IsScheduleOf machines [] = Unit {0}
IsScheduleOf machines (l ∷ lines) = IsLineOf machines l × AllByRecursion (MayPrecede l) lines × IsScheduleOf machines lines

-- a stimulus of one block
abbrev pub IsSchedule : List Line → Type 0
IsSchedule lines = IsScheduleOf 4 lines

-- the lines of a clock, in their order
abbrev pub lines_in : ℕ → List Line → List Line
lines_in clock [] = []
lines_in clock (l ∷ lines) = if l.clock == clock then l ∷ lines_in clock lines else lines_in clock lines

-- whether there is a line
abbrev pub has_lines : List Line → Bool
has_lines [] = false
has_lines (l ∷ lines) = true

-- whether a line is in the clock
abbrev pub has_line : ℕ → List Line → Bool
has_line clock lines = has_lines (lines_in clock lines)

-- no line is in a clock from this one on and before that one
abbrev pub NoneBetween : List Line → ℕ → ℕ → Type 0
NoneBetween lines from to = (c : ℕ) → from ≤ c → c < to → has_line c lines ≡ false

-- what a list of lines is to the ports whose next clock is this one: all lines from this clock on are in the rest, and no others
pub record IsRest (lines : List Line) (next : ℕ) (rest : List Line) : Type 0 where
  pub schedule : IsSchedule rest
  pub same : (c : ℕ) → next ≤ c → lines_in c lines ≡ lines_in c rest
  pub ahead : AllByRecursion (λ l. next ≤ l.clock) rest

-- how many lines at the head are in the clock
abbrev pub leading : ℕ → List Line → ℕ
leading clock [] = 0
leading clock (l ∷ lines) = if l.clock == clock then leading clock lines + 1 else 0
