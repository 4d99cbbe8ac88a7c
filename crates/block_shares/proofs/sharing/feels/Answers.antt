use Rattle.std.proofs.Common.{rules}
use Rattle.block_shares.proofs.sharing.feels.Goals as goal

-- as the search finds it; a wrong body is refused at once
pub returns-else-k-m : goal.returns-else-k-m
returns-else-k-m c = search rules
