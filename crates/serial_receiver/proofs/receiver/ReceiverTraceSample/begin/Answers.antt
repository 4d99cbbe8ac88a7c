use Rattle.std.proofs.Common.{sym, ◌∙◌}
use Rattle.serial_receiver.proofs.Texts.{begin_receives}
use Rattle.serial_receiver.proofs.receiver.ReceiverTraceSample.begin.Goals as goal

pub returns-clause-ok : goal.returns-clause-ok
returns-clause-ok g c = λ b r pin bit level taken e.
    begin_receives pin bit level taken _ c.args.self.now.bit c.args.self.now.first _ _ (sym r ∙ e) (c.new-self.ensures c.args.self.now.bit)
