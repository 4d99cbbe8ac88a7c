-- What a machine has told stays told.
use Rattle.sm_registers.proofs.StallFlags.{known_after, known_more, calm_raises}
use Rattle.sm_registers.proofs.fifo_laws.a_calm_tick_tells_nothing_new.Goals as goal

pub returns-clause-after : goal.returns-clause-after
returns-clause-after c = known_after

pub returns-clause-more : goal.returns-clause-more
returns-clause-more c = known_more

pub returns-clause-calm : goal.returns-clause-calm
returns-clause-calm c = calm_raises
