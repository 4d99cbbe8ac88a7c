use Rattle.std.proofs.Common.{rules}
use Rattle.sm_registers.proofs.Written.{masked}
use Rattle.sm_registers.proofs.outputs.written.Goals as goal

-- as the search finds it; a wrong body is refused at once
pub returns : goal.returns
returns c = search (rules, masked) steps 300000
