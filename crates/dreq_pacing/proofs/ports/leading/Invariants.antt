use Rattle.std.proofs.Common.{◌≡◌, ◌+◌, ◌≤◌, length}
use Rattle.dreq_pacing.specs.Lines.{leading}
use Rattle.dreq_pacing.proofs.ports.leading.Given as goal

-- those counted, and those at the head of the rest
abbrev pub invariant-loop-rest : goal.invariant-loop-rest
invariant-loop-rest l = record {
  all : l.number + leading l.clock l.rest ≡ leading l.clock l.lines;
  within : l.number + length l.rest ≤ length l.lines;
}

abbrev pub decreases-loop-rest : goal.decreases-loop-rest
decreases-loop-rest l = length l.rest
