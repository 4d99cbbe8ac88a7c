use Rattle.std.proofs.Common.{[], refl, arith}
use Rattle.std.proofs.lemmas.Result.{err_from_is_err_and}
use Rattle.drawn_load.specs.Summaries.{summary_of, summary_text}
use Rattle.stages.specs.Judged.{right}
use Rattle.stages.specs.Stages.{plan_of}
use Rattle.stages.proofs.Parts.{of_all, went_nowhere, goes_right, made}
use Rattle.commands.specs.Tasks.{listing}
use Rattle.commands.specs.Outside.{output_by}
use Rattle.commands.proofs.PromiseKept.{did}
use Rattle.commands.proofs.TaskDone.{listed}
use Rattle.commands.proofs.generate.generate.Goals as goal

pub returns-in_err-summary : goal.returns-in_err-summary
returns-in_err-summary g c =
    let p = err_from_is_err_and c.from_residual.result c.from_residual.ensures.1 in
    rw (p.1, p.2) (did _ g.F.Shelf g.O.Sink _ _ _ _ _ _ _ _ _ (made g.F.Shelf _ (λ summary. listing (summary_text summary)) _ _ _ _ (goes_right g.F.Shelf (plan_of (λ files. right (summary_of c.args.seed c.args.clocks)) []) (λ s. s) (summary_of c.args.seed c.args.clocks) _ _
    (went_nowhere g.F.Shelf c.args.shelf.now) (of_all _ _ (λ f. refl)))) tt
    (refl)
    (omega (arith, c.in_err-summary.ensures.steps)))

pub returns : goal.returns
returns g c =
    did _ g.F.Shelf g.O.Sink _ _ _ _ _ _ _ _ _ (made g.F.Shelf _ (λ summary. listing (summary_text summary)) _ _ _ _ (goes_right g.F.Shelf (plan_of (λ files. right (summary_of c.args.seed c.args.clocks)) []) (λ s. s) (summary_of c.args.seed c.args.clocks) _ _
    (went_nowhere g.F.Shelf c.args.shelf.now) (of_all _ _ (λ f. refl)))) tt
    (listed _ _ _ _ (rw c.in_ok-summary.ensures.summary at (c.hand_on.ensures (output_by g.O.Sink c.args.out.now) _ c.put_summary-put.ensures.bytes c.put_summary-put.ensures.cause)))
    (omega (arith, c.in_ok-summary.ensures.steps))
