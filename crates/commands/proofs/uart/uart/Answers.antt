use Rattle.std.proofs.lemmas.Result.{err_from_is_err_and}
use Rattle.stages.proofs.Parts.{made}
use Rattle.commands.specs.Tasks.{listing, sent_text}
use Rattle.commands.proofs.PromiseKept.{unread, did}
use Rattle.commands.proofs.TaskDone.{listed}
use Rattle.commands.proofs.WorkedClocks.{worked_by}
use Rattle.commands.proofs.uart.uart.Goals as goal

pub returns-in_err-bytes : goal.returns-in_err-bytes
returns-in_err-bytes g c =
    let p = err_from_is_err_and c.from_residual.result c.from_residual.ensures.1 in
    rw (p.1, p.2) (unread _ g.F.Shelf g.O.Sink _ _ _ _ _ _ (made g.F.Shelf _ (λ bytes. listing (sent_text c.args.divider bytes c.args.clocks)) _ _ _ _ c.in_err-bytes.ensures.plan))

pub returns : goal.returns
returns g c =
    did _ g.F.Shelf g.O.Sink _ _ _ _ _ _ _ _ _ (made g.F.Shelf _ (λ bytes. listing (sent_text c.args.divider bytes c.args.clocks)) _ _ _ _ c.in_ok-bytes.ensures.plan) tt
    (listed _ _ _ _ (rw c.deref.ensures.value at c.send_bytes.ensures.ends))
    (worked_by _ _ _ _ _ _ _ c.in_ok-bytes.ensures.plan.stage.1 (c.few_clocks_are_worked_out.ensures.clocks _ _ _) (rw c.deref.ensures.value at c.send_bytes.ensures.steps))
