use Rattle.std.proofs.Common.{arith}
use Rattle.std.proofs.lemmas.Result.{err_from_is_err_and}
use Rattle.stages.proofs.Parts.{made}
use Rattle.commands.specs.Tasks.{twin_start, twin_trace, twin_trace_text}
use Rattle.commands.proofs.PromiseKept.{unread, did}
use Rattle.commands.proofs.TaskDone.{both_fail, wrote}
use Rattle.commands.proofs.WorkedClocks.{worked_by}
use Rattle.commands.proofs.pair.pair.Goals as goal

pub returns-in_err-blocks : goal.returns-in_err-blocks
returns-in_err-blocks g c =
    let p = err_from_is_err_and c.from_residual.result c.from_residual.ensures.1 in
    rw (p.1, p.2) (unread _ g.F.Shelf g.O.Sink _ _ _ _ _ _ (made g.F.Shelf _ (λ b. twin_trace b.first b.second (twin_trace_text (twin_start b) b.first_lines b.second_lines c.args.clocks)) _ _ _ _ c.in_err-blocks.ensures.plan))

pub returns-in_err-require_both : goal.returns-in_err-require_both
returns-in_err-require_both g c =
    let p = err_from_is_err_and c.from_residual-in_err-require_both.result c.from_residual-in_err-require_both.ensures.1 in
    rw (p.1, p.2) (did _ g.F.Shelf g.O.Sink _ _ _ _ _ _ _ _ _ (made g.F.Shelf _ (λ b. twin_trace b.first b.second (twin_trace_text (twin_start b) b.first_lines b.second_lines c.args.clocks)) _ _ _ _ c.in_ok-blocks.ensures.plan) tt
    (both_fail _ _ _ _ _ c.in_err-require_both.ensures)
    (omega arith))

pub returns : goal.returns
returns g c =
    let asked = c.in_ok-require_both.ensures in
    did _ g.F.Shelf g.O.Sink _ _ _ _ _ _ _ _ _ (made g.F.Shelf _ (λ b. twin_trace b.first b.second (twin_trace_text (twin_start b) b.first_lines b.second_lines c.args.clocks)) _ _ _ _ c.in_ok-blocks.ensures.plan) tt
    (wrote _ _ _ _ _ (record { has = λ P h. h; met = asked.0; asked = asked.0; hold = asked.1 }) c.write_pair.ensures.ends)
    (worked_by _ _ _ _ _ _ _ c.in_ok-blocks.ensures.plan.stage.1 (c.few_clocks_are_worked_out.ensures.twin_clocks _ _ _ _) c.write_pair.ensures.steps)
