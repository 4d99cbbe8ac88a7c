-- Proved over the definitions.
use Rattle.sm_registers.proofs.Autopull.{osr_is_filled, word_is_taken, taken_in_delay, taken_once, taken_only}
use Rattle.sm_registers.proofs.fifo_laws.autopull_takes_what_it_can.Goals as goal

pub returns-clause-filled : goal.returns-clause-filled
returns-clause-filled c = osr_is_filled

pub returns-clause-taken : goal.returns-clause-taken
returns-clause-taken c = word_is_taken

pub returns-clause-delayed : goal.returns-clause-delayed
returns-clause-delayed c = taken_in_delay

pub returns-clause-once : goal.returns-clause-once
returns-clause-once c = taken_once

pub returns-clause-only : goal.returns-clause-only
returns-clause-only c = taken_only
