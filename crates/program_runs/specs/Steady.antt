-- Which stimuli leave the machines' ticks alone.
--   IsSteady         no line enables, disables or restarts a machine
--   IsLeft           the system does nothing of the kind to a machine in a clock
use Rattle.std.specs.Prelude.{◌≡◌, ℕ, Bool, true, false, List, slice_index_or}
use Rattle.std.specs.List.{AllByRecursion}
use Rattle.dreq_pacing.specs.declared.line.LineAct.{LineAct}
use Rattle.dreq_pacing.specs.declared.line.LineAct.TheVariants.{Pin, Tx, Rx, Feed, Drain, Enable, Disable, Restart}
use Rattle.dreq_pacing.specs.declared.line.Line.{Line}
use Rattle.dreq_pacing.specs.declared.due.Due.{Due}

-- the act enables or disables no machine, and restarts no divider
abbrev pub is_steady : LineAct → Bool
is_steady (Pin pin level) = true
is_steady (Tx machine word) = true
is_steady (Rx machine) = true
is_steady (Feed machine every words) = true
is_steady (Drain machine every) = true
is_steady (Enable machine) = false
is_steady (Disable machine) = false
is_steady (Restart machine) = false

-- no line enables, disables or restarts a machine
abbrev pub IsSteady : List Line → Type 0
IsSteady lines = AllByRecursion (λ l. is_steady l.act ≡ true) lines

-- nothing enables, disables or restarts the machine with this number in a clock
pub record IsLeft (d : Due) (id : ℕ) : Type 0 where
  pub enable : slice_index_or d.enable id false ≡ false
  pub disable : slice_index_or d.disable id false ≡ false
  pub restart : slice_index_or d.restart id false ≡ false
