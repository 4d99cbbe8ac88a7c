use Rattle.span_bounds.proofs.Placing.{number_below, number_of-context_at, context_at-number_of}
use Rattle.span_bounds.proofs.laws.each_context_has_its_number.Goals as goal

pub returns-clause-below : goal.returns-clause-below
returns-clause-below c = number_below

pub returns-clause-context : goal.returns-clause-context
returns-clause-context c = context_at-number_of

pub returns-clause-number : goal.returns-clause-number
returns-clause-number c = number_of-context_at
