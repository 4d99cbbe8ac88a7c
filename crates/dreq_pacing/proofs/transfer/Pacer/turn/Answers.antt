use Rattle.std.proofs.Common.{rules}
use Rattle.dreq_pacing.proofs.transfer.Pacer.turn.Goals as goal

pub returns-clause-after : goal.returns-clause-after
returns-clause-after c = search rules

pub returns-clause-moved : goal.returns-clause-moved
returns-clause-moved c = search rules
