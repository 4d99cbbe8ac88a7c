use Rattle.block_config.proofs.Absent.{second_has_no_outside, first_owns_nothing}
use Rattle.block_config.proofs.laws.each_block_keeps_to_its_keys.Goals as goal

pub returns-clause-outside : goal.returns-clause-outside
returns-clause-outside c = second_has_no_outside

pub returns-clause-own : goal.returns-clause-own
returns-clause-own c = first_owns_nothing
