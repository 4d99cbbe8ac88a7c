use Rattle.span_ticks.proofs.Levels.{level_last}
use Rattle.span_ticks.proofs.laws.levels_are_last_writes.Goals as goal

pub returns : goal.returns
returns c = level_last
