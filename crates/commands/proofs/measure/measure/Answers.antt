use Rattle.std.proofs.lemmas.Result.{err_from_is_err_and}
use Rattle.stages.proofs.Parts.{made}
use Rattle.block_core.specs.Block.{first_run}
use Rattle.commands.specs.Tasks.{listing, measured_text}
use Rattle.commands.proofs.PromiseKept.{unread, did}
use Rattle.commands.proofs.TaskDone.{listed}
use Rattle.commands.proofs.WorkedClocks.{worked_by}
use Rattle.commands.proofs.measure.measure.Goals as goal

pub returns-in_err-setup : goal.returns-in_err-setup
returns-in_err-setup g c =
    let p = err_from_is_err_and c.from_residual.result c.from_residual.ensures.1 in
    rw (p.1, p.2) (unread _ g.F.Shelf g.O.Sink _ _ _ _ _ _ (made g.F.Shelf _ (λ p. listing (measured_text (first_run p.0) p.0.spans p.1 c.args.clocks)) _ _ _ _ c.in_err-setup.ensures.plan))

pub returns : goal.returns
returns g c =
    did _ g.F.Shelf g.O.Sink _ _ _ _ _ _ _ _ _ (made g.F.Shelf _ (λ p. listing (measured_text (first_run p.0) p.0.spans p.1 c.args.clocks)) _ _ _ _ c.in_ok-setup.ensures.plan) tt
    (listed _ _ _ _ c.write_measured.ensures.ends)
    (worked_by _ _ _ _ _ _ _ c.in_ok-setup.ensures.plan.stage.1 (c.few_clocks_are_worked_out.ensures.clocks _ _ _) c.write_measured.ensures.steps)
