use Rattle.serial_receiver.proofs.Texts.{end_breaks, end_receives}
use Rattle.serial_receiver.proofs.receiver.ReceiverTraceSample.end.Goals as goal

pub returns-in-Ok-clause-ok : goal.returns-in-Ok-clause-ok
returns-in-Ok-clause-ok g c = λ b l h n pin bit level taken e. end_receives pin bit c.args.clock level taken l _ _ _ _ _ c.held-held.result n (h pin bit level taken e) c.held-held.ensures c.in-Ok.ensures.bytes

pub returns-in-Err-clause-err : goal.returns-in-Err-clause-err
returns-in-Err-clause-err g c = λ b l h n pin bit level taken e. end_breaks pin bit c.args.clock level taken l _ _ _ _ _ c.held-held.result n (h pin bit level taken e) c.held-held.ensures c.in-Err.ensures.bytes
