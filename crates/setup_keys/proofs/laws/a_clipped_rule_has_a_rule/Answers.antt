use Rattle.setup_keys.proofs.Making.{a_rule_says}
use Rattle.setup_keys.proofs.laws.a_clipped_rule_has_a_rule.Goals as goal

pub returns : goal.returns
returns c = a_rule_says
