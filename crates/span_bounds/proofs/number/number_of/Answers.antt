use Rattle.std.proofs.Common.{◌<◌, ℕ, rules, sym, subst}
use Rattle.span_bounds.specs.Numbers.{contexts}
use Rattle.span_bounds.proofs.Placing.{number_below}
use Rattle.span_bounds.proofs.number.number_of.Goals as goal

-- as the search finds it; a wrong body is refused at once
pub returns-clause-value : goal.returns-clause-value
returns-clause-value c = search rules

pub returns-clause-below : goal.returns-clause-below
returns-clause-below c = subst (λ (n : ℕ). n < contexts c.args.follow) (sym (returns-clause-value c)) (number_below c.args.follow c.args.context.now c.requires)
