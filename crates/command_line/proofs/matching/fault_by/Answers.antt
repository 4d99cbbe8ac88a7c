use Rattle.std.proofs.Common.{rules}
use Rattle.command_line.proofs.matching.fault_by.Goals as goal

-- as the search finds it: a refused body is told at once
pub returns-in-OutOfMemory : goal.returns-in-OutOfMemory
returns-in-OutOfMemory c = search rules
