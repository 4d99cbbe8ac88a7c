use Rattle.std.proofs.Common.{◌-◌}
use Rattle.serial_receiver.proofs.Reading.{Known}
use Rattle.serial_receiver.proofs.line.proceed.Given as goal

abbrev pub invariant-loop-begun : goal.invariant-loop-begun
invariant-loop-begun l = Known l.bit l.reached l.level l.initial.begun l.begun

abbrev pub decreases-loop-begun : goal.decreases-loop-begun
decreases-loop-begun l = 8 - l.begun.known
