use Rattle.std.proofs.Common.{rules}
use Rattle.block_core.proofs.slot.Slot.moved.Goals as goal

-- as the search finds it; a wrong body is refused at once
pub returns : goal.returns
returns g c = search rules steps 300000
