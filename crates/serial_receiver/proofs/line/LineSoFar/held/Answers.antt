use Rattle.std.proofs.Common.{◌-◌, length}
use Rattle.serial_receiver.proofs.Listening.{held_open, idle_brings}
use Rattle.serial_receiver.proofs.line.LineSoFar.held.Goals as goal

pub returns-in-None : goal.returns-in-None
returns-in-None c = λ before levels h low. idle_brings c.args.bit before levels (c.args.clock - length levels) c.args.self c.in-None.is h

pub returns-in-Some : goal.returns-in-Some
returns-in-Some c = held_open c.args.bit c.args.clock c.saturating_sub.result c.args.self c.in-Some.begun c.proceed.result c.heard_of.result c.in-Some.is c.saturating_sub.ensures c.proceed.ensures c.heard_of.ensures
