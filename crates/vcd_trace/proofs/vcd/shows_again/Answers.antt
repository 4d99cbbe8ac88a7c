use Rattle.std.proofs.Common.{rules}
use Rattle.vcd_trace.proofs.vcd.shows_again.Goals as goal

-- as the search finds it; a wrong body is refused at once
pub returns-in-None : goal.returns-in-None
returns-in-None c = search rules steps 300000
