use Rattle.std.proofs.Common.{◌≡◌, ◌+◌, ◌≤◌, length}
use Rattle.std.specs.Prelude.{option_copied}
use Rattle.byte_lines.specs.Lines.{lines_left}
use Rattle.dreq_pacing.specs.Reading.{read_of}
use Rattle.dreq_pacing.proofs.Readings.{going_on}
use Rattle.dreq_pacing.proofs.stimulus.read_lines.Given as goal

-- what the lines that are left make of what was read
abbrev pub invariant-loop-rest : goal.invariant-loop-rest
invariant-loop-rest l = record {
  whole : going_on l.number l.reader (lines_left (option_copied l.rest)) ≡ read_of l.machines l.text;
  same : l.reader.draft.machines ≡ l.machines;
  counted : l.number + length (lines_left (option_copied l.rest)) ≤ length l.text + 2;
}

abbrev pub decreases-loop-rest : goal.decreases-loop-rest
decreases-loop-rest l = length (lines_left (option_copied l.rest))
