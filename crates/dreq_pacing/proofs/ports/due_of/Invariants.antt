use Rattle.std.proofs.Common.{◌≡◌, length}
use Rattle.std.specs.List.{AllByRecursion}
use Rattle.dreq_pacing.specs.Lines.{IsLine}
use Rattle.dreq_pacing.specs.Due.{quiet, with_lines}
use Rattle.dreq_pacing.proofs.ports.due_of.Given as goal

-- what is done so far, with what the rest does
abbrev pub invariant-loop-rest : goal.invariant-loop-rest
invariant-loop-rest l = record {
  whole : with_lines l.rest l.due ≡ with_lines l.lines quiet;
  fine : AllByRecursion IsLine l.rest;
}

abbrev pub decreases-loop-rest : goal.decreases-loop-rest
decreases-loop-rest l = length l.rest
