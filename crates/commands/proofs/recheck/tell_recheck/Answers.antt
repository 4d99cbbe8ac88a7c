use Rattle.commands.specs.Outside.{output_by}
use Rattle.commands.proofs.TaskDone.{rechecked_does}
use Rattle.commands.proofs.recheck.tell_recheck.Goals as goal

pub returns-in-None : goal.returns-in-None
returns-in-None g c =
    rechecked_does _ _ _ _ _ _ c.in-None.ensures.0 c.in-None.ensures.1
    (c.hand_on.ensures (output_by g.O.Sink c.args.out.now) _ c.put_rechecked-put.ensures.bytes c.put_rechecked-put.ensures.cause)
