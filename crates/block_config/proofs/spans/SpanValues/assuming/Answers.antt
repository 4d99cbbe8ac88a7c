use Rattle.std.proofs.Common.{refl}
use Rattle.std.proofs.lemmas.Result.{err_from_is_err_and}
use Rattle.block_config.proofs.Placing.{refuses_on}
use Rattle.block_config.proofs.spans.SpanValues.assuming.Goals as goal

pub returns-in_err-assume : goal.returns-in_err-assume
returns-in_err-assume c =
    let p = err_from_is_err_and c.from_residual.result c.from_residual.ensures.1 in
    rw (p.1, p.2) (refuses_on c.in_err-assume.field-0.0 _ _ (λ e f. rw f refl) c.in_err-assume.ensures)

pub returns : goal.returns
returns c = rw c.in_ok-assume.ensures c.span.ensures
