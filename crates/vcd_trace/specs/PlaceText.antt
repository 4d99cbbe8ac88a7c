-- What is kept of the lines of an address and a word, and what is written into a room: words of private clauses.
use Rattle.std.specs.Prelude.{◌≡◌, ℕ, ◌+◌, ◌-◌, ◌≤◌, List, ◌++◌, bit_and, bit_xor, drop}
use Rattle.vcd_trace.specs.declared.place_lines.PlaceLines.{PlaceLines}
use Rattle.vcd_trace.specs.VcdText.{vector_line}

-- the lines of an address and a word, whose numbers count on from one
abbrev pub place_lines : (first pc instruction : ℕ) → List ℕ
place_lines first pc instruction = vector_line first pc ++ vector_line (first + 1) instruction

-- the room has the lines of these from the start on
pub record HasPlace (l : PlaceLines) (first pc instruction : ℕ) : Type 0 where
  pub within : l.start ≤ 34
  pub text : drop l.start l.room ≡ place_lines first pc instruction

-- it has those that it says
abbrev pub IsPlace : PlaceLines → Type 0
IsPlace l = HasPlace l l.first l.pc l.instruction

-- at most one bit changes
abbrev pub one_changes : (before now : ℕ) → Type 0
one_changes before now = bit_and (bit_xor before now) (bit_xor before now - 1) ≡ 0
