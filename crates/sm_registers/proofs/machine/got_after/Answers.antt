use Rattle.std.proofs.Common.{rules}
use Rattle.sm_registers.proofs.machine.got_after.Goals as goal

-- as the search finds it; a wrong body is refused at once
pub returns-in-Some : goal.returns-in-Some
returns-in-Some c = search rules steps 300000
