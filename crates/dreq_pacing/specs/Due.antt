-- What the lines of a clock do in it, one after the other.
--   quiet     nothing
--   with_act  what one line adds
--   lined     what some lines do
use Rattle.std.specs.Prelude.{ℕ, ◌-◌, ◌^◌, Bool, true, false, Some, None, List, [], ◌∷◌, if◌then◌else◌, slice_set, bit_and, bit_or}
use Rattle.dreq_pacing.specs.declared.due.Due.{Due}
use Rattle.dreq_pacing.specs.declared.line.LineAct.{LineAct}
use Rattle.dreq_pacing.specs.declared.line.LineAct.TheVariants.{Pin, Tx, Rx, Feed, Drain, Enable, Disable, Restart}
use Rattle.dreq_pacing.specs.declared.line.Line.{Line}

-- no machine
abbrev pub no_machine : List Bool
no_machine = false ∷ false ∷ false ∷ false ∷ []

-- nothing is done
abbrev pub quiet : Due
quiet = record {
  pins = 0;
  values = 0;
  word = None ∷ None ∷ None ∷ None ∷ [];
  read = no_machine;
  word_paced = no_machine;
  read_paced = no_machine;
  enable = no_machine;
  disable = no_machine;
  restart = no_machine;
}

-- the number whose bits are this pin alone
abbrev pub bit_of : ℕ → ℕ
bit_of pin = 2 ^ pin

-- a pin is set to a level, in place of an earlier one
abbrev pub with_pin : ℕ → Bool → Due → Due
with_pin pin level d = record d {
  pins = bit_or d.pins (bit_of pin);
  values = if level then bit_or d.values (bit_of pin) else bit_and d.values (2 ^ 32 - 1 - bit_of pin);
}

-- what a line does beside what was done before it; a feed or a drain begins, and does nothing by that
abbrev pub with_act : LineAct → Due → Due
with_act (Pin pin level) d = with_pin pin level d
with_act (Tx machine word) d = record d { word = slice_set d.word machine (Some word) }
with_act (Rx machine) d = record d { read = slice_set d.read machine true }
with_act (Enable machine) d = record d { enable = slice_set d.enable machine true }
with_act (Disable machine) d = record d { disable = slice_set d.disable machine true }
with_act (Restart machine) d = record d { restart = slice_set d.restart machine true }
with_act (Feed machine every words) d = d
with_act (Drain machine every) d = d

-- what lines do, one after the other
abbrev pub with_lines : List Line → Due → Due
with_lines [] d = d
with_lines (l ∷ lines) d = with_lines lines (with_act l.act d)
