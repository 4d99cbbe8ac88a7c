use Rattle.std.proofs.Common.{rules}
use Rattle.sm_registers.proofs.idling.is_unmet.Goals as goal

-- as the search finds it; a wrong body is refused at once
pub returns-in-Wait : goal.returns-in-Wait
returns-in-Wait c = search rules steps 300000
