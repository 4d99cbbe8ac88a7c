use Rattle.std.proofs.Common.{arith}
use Rattle.std.proofs.lemmas.Result.{err_from_is_err_and}
use Rattle.stages.proofs.Parts.{made}
use Rattle.block_shares.specs.Report.{shares_text}
use Rattle.commands.specs.Tasks.{listing}
use Rattle.commands.specs.Outside.{output_by}
use Rattle.commands.proofs.PromiseKept.{unread, did}
use Rattle.commands.proofs.TaskDone.{listed}
use Rattle.commands.proofs.shares.shares.Goals as goal

pub returns-in_err-setup : goal.returns-in_err-setup
returns-in_err-setup g c =
    let p = err_from_is_err_and c.from_residual.result c.from_residual.ensures.1 in
    rw (p.1, p.2) (unread _ g.F.Shelf g.O.Sink _ _ _ _ _ _ (made g.F.Shelf _ (λ p. listing (shares_text p.0)) _ _ _ _ c.in_err-setup.ensures.plan))

pub returns : goal.returns
returns g c =
    did _ g.F.Shelf g.O.Sink _ _ _ _ _ _ _ _ _ (made g.F.Shelf _ (λ p. listing (shares_text p.0)) _ _ _ _ c.in_ok-setup.ensures.plan) tt
    (listed _ _ _ _ (c.hand_on.ensures (output_by g.O.Sink c.args.out.now) _ c.put_shares-put.ensures.bytes c.put_shares-put.ensures.cause))
    (omega arith)
