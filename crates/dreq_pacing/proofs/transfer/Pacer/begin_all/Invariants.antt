use Rattle.std.proofs.Common.{◌≡◌, length}
use Rattle.dreq_pacing.specs.Transfers.{begun}
use Rattle.dreq_pacing.proofs.transfer.Pacer.begin_all.Given as goal

-- what is begun so far, with what the rest begins
abbrev pub invariant-loop-rest : goal.invariant-loop-rest
invariant-loop-rest l = begun l.machine l.rest l.self ≡ begun l.machine l.here l.initial.self

abbrev pub decreases-loop-rest : goal.decreases-loop-rest
decreases-loop-rest l = length l.rest
