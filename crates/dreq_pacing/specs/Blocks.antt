-- The stimulus of two blocks on the same pins: one text, in which machines 0 to 3 are those of the first block, and 4 to 7 are
-- machines 0 to 3 of the second (choice of this profile).
--   is_own            that a line is for the block whose machines are the four from a number on
--   own_line          a line with the number that its machine has in its block
--   block_lines       the lines of a block
--   pair_stimulus_of  the lines of a text for each block, or its first fault
use Rattle.std.specs.Prelude.{ℕ, ◌+◌, ◌-◌, ◌&&◌, nat_le, nat_lt, Bool, true, Option, Some, None, List, map, Result}
use Rattle.std.specs.List.{filter}
use Rattle.answers.specs.Answers.{made}
use Rattle.dreq_pacing.specs.declared.line.LineAct.{LineAct}
use Rattle.dreq_pacing.specs.declared.line.LineAct.TheVariants.{Pin, Tx, Rx, Feed, Drain, Enable, Disable, Restart}
use Rattle.dreq_pacing.specs.declared.line.Line.{Line}
use Rattle.dreq_pacing.specs.Reading.{StimulusRefusal, read_of}

-- the machine that a line names; a pin has none
abbrev pub machine_of : LineAct → Option ℕ
machine_of (Pin pin level) = None
machine_of (Tx machine word) = Some machine
machine_of (Rx machine) = Some machine
machine_of (Feed machine every words) = Some machine
machine_of (Drain machine every) = Some machine
machine_of (Enable machine) = Some machine
machine_of (Disable machine) = Some machine
machine_of (Restart machine) = Some machine

-- whether the block has the machine: its four begin with the first number; a line without one is for both blocks
abbrev pub has_machine : ℕ → Option ℕ → Bool
has_machine first None = true
has_machine first (Some machine) = nat_le first machine && nat_lt machine (first + 4)

-- whether a line is for the block
abbrev pub is_own : ℕ → Line → Bool
is_own first l = has_machine first (machine_of l.act)

-- what a line does, with the number that its machine has in the block
abbrev pub own_act : ℕ → LineAct → LineAct
own_act first (Pin pin level) = Pin pin level
own_act first (Tx machine word) = Tx (machine - first) word
own_act first (Rx machine) = Rx (machine - first)
own_act first (Feed machine every words) = Feed (machine - first) every words
own_act first (Drain machine every) = Drain (machine - first) every
own_act first (Enable machine) = Enable (machine - first)
own_act first (Disable machine) = Disable (machine - first)
own_act first (Restart machine) = Restart (machine - first)

-- a line as the block has it
abbrev pub own_line : ℕ → Line → Line
own_line first l = record { clock = l.clock; act = own_act first l.act }

-- the lines of the block, in their order
abbrev pub block_lines : ℕ → List Line → List Line
block_lines first lines = map (own_line first) (filter (is_own first) lines)

-- the lines of each block: machines 0 to 3 are the first one's, machines 4 to 7 the second one's, and pins are both blocks'
abbrev pub pair_of : List Line → List Line × List Line
pair_of lines = (block_lines 0 lines, block_lines 4 lines)

-- The lines of a text for each block, or its first fault: the text is read as one for eight machines.
unfoldable pub pair_stimulus_of : List ℕ → Result (List Line × List Line) StimulusRefusal
pair_stimulus_of text = made pair_of (read_of 8 text)
