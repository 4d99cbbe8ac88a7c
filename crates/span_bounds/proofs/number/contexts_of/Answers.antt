use Rattle.span_bounds.proofs.Fitting.{contexts_fit}
use Rattle.span_bounds.proofs.number.contexts_of.Goals as goal

pub returns-clause-fits : goal.returns-clause-fits
returns-clause-fits c = rw (c.contexts.ensures, c.follow.ensures) (contexts_fit c.args.span.now.assume c.as_slice-kept.ensures.kept)
