use Rattle.block_core.specs.Block.{stepped, view_of, intents_of, level_writes, direction_writes}
use Rattle.block_core.proofs.laws.each_pin_gets_the_last_write.Goals as goal

pub returns : goal.returns
unfolding stepped
returns c = record {
  levels = λ memory seen d b p below writes. c.the_last_write_counts.ensures.pin p b.levels (level_writes (intents_of (view_of memory seen b) d b.machines)) below writes;
  directions = λ memory seen d b p below writes. c.the_last_write_counts.ensures.pin p b.directions (direction_writes (intents_of (view_of memory seen b) d b.machines)) below writes;
}
