use Rattle.std.proofs.Common.{rules}
use Rattle.stages.proofs.named.has_name.Goals as goal

-- as the search finds it; a wrong body is refused at once
pub returns : goal.returns
returns c = search rules steps 300000
