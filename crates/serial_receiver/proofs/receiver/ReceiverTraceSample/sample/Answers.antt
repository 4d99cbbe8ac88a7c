use Rattle.std.proofs.Common.{Bool, subst}
use Rattle.serial_receiver.proofs.Texts.{StepsLine, sample_breaks, sample_receives}
use Rattle.serial_receiver.proofs.receiver.ReceiverTraceSample.sample.Goals as goal

pub returns-in-Ok-clause-ok : goal.returns-in-Ok-clause-ok
returns-in-Ok-clause-ok g c = λ b l h n pin bit level taken e.
    let P : Bool → Type 0 = λ v. StepsLine c.args.self.now.bit c.args.clock v c.held-held.result.line c.after-now.result in
    sample_receives pin bit c.args.clock level taken l c.args.sample.now _ _ _ _ _ c.held-held.result c.after-now.result n (h pin bit level taken e) c.held-held.ensures (subst P c.is_high-level.ensures c.after-now.ensures) c.in-Ok.ensures.bytes

pub returns-in-Err-clause-err : goal.returns-in-Err-clause-err
returns-in-Err-clause-err g c = λ b l h n pin bit level taken e.
    let P : Bool → Type 0 = λ v. StepsLine c.args.self.now.bit c.args.clock v c.held-held.result.line c.after-now.result in
    sample_breaks pin bit c.args.clock level taken l c.args.sample.now _ _ _ _ _ c.held-held.result c.after-now.result n (h pin bit level taken e) c.held-held.ensures (subst P c.is_high-level.ensures c.after-now.ensures) c.in-Err.ensures.bytes
