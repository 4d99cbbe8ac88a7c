-- Stimuli whose words have 32 bits.
--   HasWords         those of an act
--   AreWords         those of all lines
use Rattle.std.specs.Prelude.{◌^◌, ◌<◌, List}
use Rattle.std.specs.List.{AllByRecursion}
use Rattle.dreq_pacing.specs.declared.line.LineAct.{LineAct}
use Rattle.dreq_pacing.specs.declared.line.LineAct.TheVariants.{Pin, Tx, Rx, Feed, Drain, Enable, Disable, Restart}
use Rattle.dreq_pacing.specs.declared.line.Line.{Line}

-- the words that the act gives to a TX have 32 bits
abbrev pub HasWords : LineAct → Type 0
HasWords (Pin pin level) = Unit {0}
HasWords (Tx machine word) = word < 2 ^ 32
HasWords (Rx machine) = Unit {0}
HasWords (Feed machine every words) = AllByRecursion (λ w. w < 2 ^ 32) words
HasWords (Drain machine every) = Unit {0}
HasWords (Enable machine) = Unit {0}
HasWords (Disable machine) = Unit {0}
HasWords (Restart machine) = Unit {0}

-- so it is of all lines, as of every stimulus that is read
abbrev pub AreWords : List Line → Type 0
AreWords lines = AllByRecursion (λ l. HasWords l.act) lines
