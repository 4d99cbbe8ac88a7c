use Rattle.std.proofs.Common.{sym, ◌∙◌}
use Rattle.span_step.proofs.Assuming.{wide_met}
use Rattle.span_step.proofs.stepping.is_unmet.Goals as goal

pub returns-then-is_wide : goal.returns-then-is_wide
returns-then-is_wide c = sym (wide_met c.args.found.now.narrowing c.args.found.now.ends (sym c.is_wide.ensures ∙ c.if-is_wide.true))
