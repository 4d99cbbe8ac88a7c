use Rattle.std.proofs.Common.{arith}
use Rattle.std.proofs.lemmas.Result.{err_from_is_err_and}
use Rattle.block_core.specs.Block.{first_run}
use Rattle.stages.proofs.Parts.{made}
use Rattle.commands.specs.Tasks.{trace, trace_text}
use Rattle.commands.proofs.PromiseKept.{unread, did}
use Rattle.commands.proofs.TaskDone.{asked_fails, wrote}
use Rattle.commands.proofs.WorkedClocks.{worked_by}
use Rattle.commands.proofs.run.run.Goals as goal

pub returns-in_err-setup : goal.returns-in_err-setup
returns-in_err-setup g c =
    let p = err_from_is_err_and c.from_residual.result c.from_residual.ensures.1 in
    rw (p.1, p.2) (unread _ g.F.Shelf g.O.Sink _ _ _ _ _ _ (made g.F.Shelf _ (λ p. trace p.0 (trace_text (first_run p.0) p.1 c.args.clocks)) _ _ _ _ c.in_err-setup.ensures.plan))

pub returns-in_err-require_spans : goal.returns-in_err-require_spans
returns-in_err-require_spans g c =
    let p = err_from_is_err_and c.from_residual-in_err-require_spans.result c.from_residual-in_err-require_spans.ensures.1 in
    rw (p.1, p.2) (did _ g.F.Shelf g.O.Sink _ _ _ _ _ _ _ _ _ (made g.F.Shelf _ (λ p. trace p.0 (trace_text (first_run p.0) p.1 c.args.clocks)) _ _ _ _ c.in_ok-setup.ensures.plan) tt
    (asked_fails _ _ _ _ c.in_err-require_spans.ensures)
    (omega arith))

pub returns : goal.returns
returns g c =
    let asked = c.in_ok-require_spans.ensures in
    did _ g.F.Shelf g.O.Sink _ _ _ _ _ _ _ _ _ (made g.F.Shelf _ (λ p. trace p.0 (trace_text (first_run p.0) p.1 c.args.clocks)) _ _ _ _ c.in_ok-setup.ensures.plan) tt
    (wrote _ _ _ _ _ (record { has = λ P h. h; met = asked.0; asked = asked.0; hold = asked.1 }) c.write_trace.ensures.ends)
    (worked_by _ _ _ _ _ _ _ c.in_ok-setup.ensures.plan.stage.1 (c.few_clocks_are_worked_out.ensures.clocks _ _ _) c.write_trace.ensures.steps)
