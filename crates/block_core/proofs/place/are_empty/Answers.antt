use Rattle.std.proofs.Common.{rules}
use Rattle.block_core.proofs.place.are_empty.Goals as goal

-- as the search finds it; a wrong body is refused at once
pub returns-then-is_none-2 : goal.returns-then-is_none-2
returns-then-is_none-2 c = search rules steps 300000
