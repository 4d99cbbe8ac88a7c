use Rattle.std.proofs.Common.{refl, arith}
use Rattle.std.proofs.lemmas.Result.{err_from_is_err_and}
use Rattle.stages.proofs.Parts.{made}
use Rattle.commands.specs.Tasks.{verdicts}
use Rattle.commands.proofs.PromiseKept.{unread, did}
use Rattle.commands.proofs.check.check.Goals as goal

pub returns-in_err-setup : goal.returns-in_err-setup
returns-in_err-setup g c =
    let p = err_from_is_err_and c.from_residual.result c.from_residual.ensures.1 in
    rw (p.1, p.2) (unread _ g.F.Shelf g.O.Sink _ _ _ _ _ _ (made g.F.Shelf _ (λ p. verdicts p.0) _ _ _ _ c.in_err-setup.ensures.plan))

pub returns-in_err-verdicts : goal.returns-in_err-verdicts
returns-in_err-verdicts g c =
    let p = err_from_is_err_and c.from_residual-in_err-verdicts.result c.from_residual-in_err-verdicts.ensures.1 in
    rw (p.1, p.2) (did _ g.F.Shelf g.O.Sink _ _ _ _ _ _ _ _ _ (made g.F.Shelf _ (λ p. verdicts p.0) _ _ _ _ c.in_ok-setup.ensures.plan) tt
    (refl)
    (omega arith))

pub returns : goal.returns
returns g c =
    did _ g.F.Shelf g.O.Sink _ _ _ _ _ _ _ _ _ (made g.F.Shelf _ (λ p. verdicts p.0) _ _ _ _ c.in_ok-setup.ensures.plan) tt
    (c.tell_verdicts.ensures)
    (omega arith)
