use Rattle.std.proofs.Common.{rules}
use Rattle.sm_registers.proofs.machine.Machine.shown.Goals as goal

-- as the search finds it; a wrong body is refused at once
pub returns-clause-value : goal.returns-clause-value
returns-clause-value g c = search rules steps 300000
