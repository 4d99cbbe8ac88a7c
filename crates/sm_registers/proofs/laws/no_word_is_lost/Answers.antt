-- Proved over the definitions.
use Rattle.sm_registers.proofs.Taken.{word_taken, word_given}
use Rattle.sm_registers.proofs.laws.no_word_is_lost.Goals as goal

pub returns-clause-taken : goal.returns-clause-taken
returns-clause-taken c = word_taken

pub returns-clause-given : goal.returns-clause-given
returns-clause-given c = word_given
