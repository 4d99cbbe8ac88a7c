-- When two runs are the same to one machine, whatever else differs between them.
--   AgreeOn       two numbers have the same bits at these places
--   names         a stimulus line speaks of a machine, or of a pin that it reads
--   own_lines     the lines that do
--   AreAlikeTo    two setups agree on what is a machine's own
--   IsSameTo      two states do
use Rattle.std.specs.Prelude.{◌≡◌, ℕ, ◌^◌, ◌<◌, ◌==◌, Bool, true, Some, None, List, slice_index, slice_index_or}
use Rattle.std.specs.List.{filter}
use Rattle.pin_matrix.specs.declared.machine.MachineSetup.{MachineSetup}
use Rattle.pin_matrix.specs.declared.setup.Setup.{Setup}
use Rattle.dreq_pacing.specs.declared.line.LineAct.{LineAct}
use Rattle.dreq_pacing.specs.declared.line.LineAct.TheVariants.{Pin, Tx, Rx, Feed, Drain, Enable, Disable, Restart}
use Rattle.dreq_pacing.specs.declared.line.Line.{Line}
use Rattle.block_core.specs.Block.{BlockState}
use Rattle.block_core.specs.Following.{place_at}
use Rattle.block_shares.specs.declared.touched.Touches.{Touches}
use Rattle.block_shares.specs.Acts.{has}
use Rattle.block_shares.specs.Shares.{own_pins, own_flags}

-- of n bits, those in a set are the same in two numbers
abbrev pub AgreeOn : (n set : ℕ) → ℕ → ℕ → Type 0
AgreeOn n set x y = (i : ℕ) → i < n → has set i ≡ true → has x i ≡ has y i

-- a setup's pins are words of 32 bits
pub record HasWords (s : Setup) : Type 0 where
  pub level : s.level < 2 ^ 32
  pub out : s.out < 2 ^ 32
  pub high : s.high < 2 ^ 32
  pub bypass : s.bypass < 2 ^ 32

-- a line names the machine, or sets a pin that it reads
abbrev pub names : (machine reads : ℕ) → LineAct → Bool
names machine reads (Pin pin level) = has reads pin
names machine reads (Tx m word) = m == machine
names machine reads (Rx m) = m == machine
names machine reads (Feed m every words) = m == machine
names machine reads (Drain m every) = m == machine
names machine reads (Enable m) = m == machine
names machine reads (Disable m) = m == machine
names machine reads (Restart m) = m == machine

-- the lines that name the machine, or set a pin that it reads, in their order
abbrev pub own_lines : (machine reads : ℕ) → List Line → List Line
own_lines machine reads lines = filter (λ l. names machine reads l.act) lines

-- Two setups agree on what is the machine's: its own setup and the words that it reaches; the levels and directions of its pins;
-- and of the pins that it reads what drives them from the outside, and whether they have a synchroniser. All else may differ:
-- the other machines and their words, the other pins.
pub record AreAlikeTo (machine : ℕ) (own : MachineSetup) (touches : Touches) (s t : Setup) : Type 0 where
  pub here : slice_index_or s.machines machine None ≡ Some own
  pub there : slice_index_or t.machines machine None ≡ Some own
  pub words : (address : ℕ) → address < 32 → has touches.reach address ≡ true → slice_index s.memory address ≡ slice_index t.memory address
  pub level : AgreeOn 32 (own_pins touches) s.level t.level
  pub out : AgreeOn 32 (own_pins touches) s.out t.out
  pub high : AgreeOn 32 touches.reads s.high t.high
  pub bypass : AgreeOn 32 touches.reads s.bypass t.bypass

-- Two states are the same to the machine: all of it, with its FIFOs and its divider, the levels and directions of its pins, and
-- its flags.
pub record IsSameTo (machine : ℕ) (touches : Touches) (a b : BlockState) : Type 0 where
  pub place : place_at a machine ≡ place_at b machine
  pub levels : AgreeOn 32 (own_pins touches) a.levels b.levels
  pub directions : AgreeOn 32 (own_pins touches) a.directions b.directions
  pub flags : AgreeOn 8 (own_flags touches) a.flags b.flags
