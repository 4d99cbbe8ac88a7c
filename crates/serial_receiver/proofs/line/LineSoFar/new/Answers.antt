use Rattle.serial_receiver.proofs.Listening.{hears_none}
use Rattle.serial_receiver.proofs.line.LineSoFar.new.Goals as goal

pub returns : goal.returns
returns c = λ bit. hears_none bit c.args.level
