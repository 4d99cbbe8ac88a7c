use Rattle.std.proofs.Common.{Result, subst, sym}
use Rattle.span_texts.specs.declared.refusal.Finding.{Finding}
use Rattle.span_texts.specs.declared.refusal.Refusal.{Refusal}
use Rattle.stages.specs.Spans.{IsVerdictOn}
use Rattle.stages.proofs.Judging.{without_table}
use Rattle.stages.proofs.spans.judge_span.Goals as goal

pub returns : goal.returns
returns c =
    subst (λ (found : Result Finding Refusal). IsVerdictOn c.args.setup.now c.args.span.now found) (sym c.found_by.ensures)
    (without_table _ _ _ c.in_ok-verdict.ensures.verdict)
