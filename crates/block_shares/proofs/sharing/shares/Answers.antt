use Rattle.std.proofs.Common.{rules}
use Rattle.block_shares.proofs.sharing.shares.Goals as goal

-- as the search finds it; a wrong body is refused at once
pub returns : goal.returns
returns c = search rules
