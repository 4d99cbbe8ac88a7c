use Rattle.std.proofs.Common.{rules}
use Rattle.sm_registers.proofs.Stirs.{passes}
use Rattle.sm_registers.proofs.machine.Machine.leap.Goals as goal

-- as the search finds it; a wrong body is refused at once
pub returns-clause-ticks : goal.returns-clause-ticks
returns-clause-ticks g c = search (rules, passes) steps 3000000

pub returns-clause-delay : goal.returns-clause-delay
returns-clause-delay g c = search (rules, passes) steps 3000000
