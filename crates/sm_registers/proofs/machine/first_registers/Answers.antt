use Rattle.std.proofs.Common.{rules}
use Rattle.sm_registers.proofs.machine.first_registers.Goals as goal

-- as the search finds it; a wrong body is refused at once
pub returns : goal.returns
returns c = search rules steps 300000
