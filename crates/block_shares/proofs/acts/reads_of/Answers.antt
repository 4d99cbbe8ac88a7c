use Rattle.std.proofs.Common.{rules}
use Rattle.block_shares.proofs.acts.reads_of.Goals as goal

-- as the search finds it; a wrong body is refused at once
pub returns-in-In : goal.returns-in-In
returns-in-In c = search rules
