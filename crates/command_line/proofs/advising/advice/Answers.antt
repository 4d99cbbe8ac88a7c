use Rattle.std.proofs.Common.{rules}
use Rattle.command_line.proofs.advising.advice.Goals as goal

-- as the search finds it: a refused body is told at once
pub returns-in-Ok-clause-refused : goal.returns-in-Ok-clause-refused
returns-in-Ok-clause-refused c = search rules

pub returns-in-Ok-clause-taken : goal.returns-in-Ok-clause-taken
returns-in-Ok-clause-taken c = search rules

pub returns-in-Ok-clause-none : goal.returns-in-Ok-clause-none
returns-in-Ok-clause-none c = search rules
