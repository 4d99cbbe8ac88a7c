use Rattle.std.proofs.Common.{rules}
use Rattle.block_core.proofs.place.shown.Goals as goal

-- as the search finds it; a wrong body is refused at once
pub returns-in-None : goal.returns-in-None
returns-in-None g c = search rules steps 300000
