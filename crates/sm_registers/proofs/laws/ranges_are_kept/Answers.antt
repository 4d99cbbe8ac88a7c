-- Proved over the definitions.
use Rattle.sm_registers.proofs.Placed.{placed_tick}
use Rattle.sm_registers.proofs.Words.{words_kept, word_fits}
use Rattle.sm_registers.proofs.laws.ranges_are_kept.Goals as goal

pub returns-clause-placed : goal.returns-clause-placed
returns-clause-placed c = placed_tick

pub returns-clause-words : goal.returns-clause-words
returns-clause-words c = words_kept

pub returns-clause-word : goal.returns-clause-word
returns-clause-word c = word_fits
