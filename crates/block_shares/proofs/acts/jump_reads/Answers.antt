use Rattle.std.proofs.Common.{rules}
use Rattle.block_shares.proofs.acts.jump_reads.Goals as goal

-- as the search finds it; a wrong body is refused at once
pub returns-in-Pin : goal.returns-in-Pin
returns-in-Pin c = search rules
