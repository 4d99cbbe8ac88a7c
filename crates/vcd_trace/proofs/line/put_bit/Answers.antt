use Rattle.std.proofs.Common.{rules}
use Rattle.vcd_trace.proofs.line.put_bit.Goals as goal

-- as the search finds it; a wrong body is refused at once
pub returns-else-id-lt-SECOND-clause-bytes : goal.returns-else-id-lt-SECOND-clause-bytes
returns-else-id-lt-SECOND-clause-bytes g c = search rules steps 300000
