use Rattle.std.proofs.Common.{arith}
use Rattle.block_config.proofs.Assumed.{less_than_two, more_than_two}
use Rattle.block_config.proofs.assume.range_in.Goals as goal

pub returns-in_default-clause-value : goal.returns-in_default-clause-value
returns-in_default-clause-value c = less_than_two c.args.other c.args.values.now (omega (arith, c.in_default.len_below))

pub returns-in_default-2-clause-value : goal.returns-in_default-2-clause-value
returns-in_default-2-clause-value c = more_than_two c.args.other c.args.values.now (omega (arith, c.in_default.len_at_least))
