use Rattle.std.proofs.Common.{refl}
use Rattle.span_bounds.proofs.Ends.{IsGoodLeast-ends}
use Rattle.span_bounds.proofs.Firsts.{IsFirstBad-ends}
use Rattle.span_bounds.proofs.answer.derive_counted.Goals as goal

pub returns-in-Some-clause-answer : goal.returns-in-Some-clause-answer
returns-in-Some-clause-answer g c =
    rw (c.context_at.ensures, c.follow-follow.ensures) (IsFirstBad-ends _ _ _ _ _ c.swept.ensures.settled.taken c.swept.ensures.settled.bounded c.requires c.in-Some.ensures.value)

pub returns-in-None-clause-answer : goal.returns-in-None-clause-answer
returns-in-None-clause-answer g c = rw (c.of.ensures, c.follow-follow.ensures) (refl, IsGoodLeast-ends _ _ _ _ c.swept.ensures.settled.taken c.requires c.swept.ensures.settled.bounded c.in-None.ensures.value)
