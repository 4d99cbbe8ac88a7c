-- The law of ticks that don't stir.
use Rattle.sm_registers.proofs.Stirs.{calm_tick, passes}
use Rattle.sm_registers.proofs.laws.a_calm_tick_only_counts.Goals as goal

pub returns-clause-once : goal.returns-clause-once
returns-clause-once c = calm_tick

pub returns-clause-often : goal.returns-clause-often
returns-clause-often c = passes
