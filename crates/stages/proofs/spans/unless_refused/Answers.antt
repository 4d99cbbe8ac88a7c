use Rattle.std.proofs.Common.{subst}
use Rattle.stages.specs.Spans.{IsFirstOf}
use Rattle.stages.proofs.Judging.{refused_asked, never_memory}
use Rattle.stages.proofs.spans.unless_refused.Goals as goal

pub returns-in-Some-clause-required : goal.returns-in-Some-clause-required
returns-in-Some-clause-required c = refused_asked c.args.setup.now c.in-Some.fault (subst (IsFirstOf c.args.setup.now c.args.setup.now.spans) c.in-Some.is c.requires.first)

pub returns-in-Some-clause-memory : goal.returns-in-Some-clause-memory
returns-in-Some-clause-memory c =
    never_memory c.args.setup.now c.in-Some.fault (subst (IsFirstOf c.args.setup.now c.args.setup.now.spans) c.in-Some.is c.requires.first)
