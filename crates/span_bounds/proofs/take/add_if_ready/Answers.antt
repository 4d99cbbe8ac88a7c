use Rattle.std.proofs.Common.{sym, ◌∙◌}
use Rattle.span_bounds.proofs.Takes.{AreReady-push, AreReady-skip}
use Rattle.span_bounds.proofs.take.add_if_ready.Goals as goal

pub returns-then-is_ready-clause-ready : goal.returns-then-is_ready-clause-ready
returns-then-is_ready-clause-ready c = AreReady-push _ _ _ _ _ c.requires.number c.requires.numbers (sym c.is_ready.ensures ∙ c.if-is_ready.true) c.push.ensures.numbers c.requires.before

pub returns-else-is_ready-clause-ready : goal.returns-else-is_ready-clause-ready
returns-else-is_ready-clause-ready c = AreReady-skip _ _ _ _ c.requires.number c.requires.numbers (sym c.is_ready.ensures ∙ c.if-is_ready.false) c.requires.before
