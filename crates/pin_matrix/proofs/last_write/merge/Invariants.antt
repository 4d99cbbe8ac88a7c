-- What is left of the writes makes of the pins so far what all of them make of the first.
use Rattle.std.proofs.Common.{◌≡◌, drop}
use Rattle.pin_matrix.specs.Pins as spec
use Rattle.pin_matrix.proofs.last_write.merge.Given as goal

abbrev pub invariant-loop-write : goal.invariant-loop-write
invariant-loop-write l = spec.merged l.pins (drop l.write-index l.writes) ≡ spec.merged l.old l.writes
