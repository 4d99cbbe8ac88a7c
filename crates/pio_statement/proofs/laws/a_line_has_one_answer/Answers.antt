use Rattle.pio_statement.proofs.Whole.{after, unknown, unknown_only}
use Rattle.pio_statement.proofs.laws.a_line_has_one_answer.Goals as goal

pub returns-clause-after : goal.returns-clause-after
returns-clause-after c = after

pub returns-clause-unknown : goal.returns-clause-unknown
returns-clause-unknown c = unknown

pub returns-clause-unknown_only : goal.returns-clause-unknown_only
returns-clause-unknown_only c = unknown_only
