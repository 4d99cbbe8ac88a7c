use Rattle.std.proofs.Common.{sym, ◌∙◌}
use Rattle.span_bounds.proofs.Takes.{IsTaking-skip}
use Rattle.span_bounds.proofs.take.take_number.Goals as goal

pub returns-else-is_ready-clause-takes : goal.returns-else-is_ready-clause-takes
returns-else-is_ready-clause-takes g c = IsTaking-skip _ _ _ _ _ _ _ (sym c.is_ready.ensures ∙ c.if-is_ready.false) c.requires.takes
