use Rattle.std.proofs.Common.{ap₂}
use Rattle.std.proofs.lemmas.Result.{err_from_is_err_and}
use Rattle.stages.specs.Spans.{verdict_text}
use Rattle.commands.proofs.SpanLines.{as_many}
use Rattle.commands.proofs.TaskDone.{verdicts_fail, verdicts_end}
use Rattle.commands.proofs.check.tell_verdicts.Goals as goal

pub write_verdicts-requires : goal.write_verdicts-requires
write_verdicts-requires g c = rw (c.as_slice.ensures.list, c.deref.ensures.value) (as_many _ _ _ c.requires.judged.verdicts)

pub returns-in_err-write_verdicts : goal.returns-in_err-write_verdicts
returns-in_err-write_verdicts g c =
    let p = err_from_is_err_and c.from_residual.result c.from_residual.ensures.1 in
    rw (p.1, p.2) (verdicts_fail _ _ _ _ _ _ c.requires.judged.verdicts (ap₂ verdict_text c.as_slice.ensures.list c.deref.ensures.value)
    c.in_err-write_verdicts.ensures)

pub returns : goal.returns
returns g c =
    verdicts_end _ _ _ _ _ _ c.requires.judged.verdicts (ap₂ verdict_text c.as_slice.ensures.list c.deref.ensures.value)
    c.in_ok-write_verdicts.ensures c.unless_refused.ensures.required c.unless_refused.ensures.memory
