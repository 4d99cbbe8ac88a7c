use Rattle.std.proofs.Common.{rules}
use Rattle.sm_registers.proofs.intent.Intent.of.Goals as goal

-- as the search finds it; a wrong body is refused at once
pub returns-in-Nothing : goal.returns-in-Nothing
returns-in-Nothing c = search rules steps 1000000

pub returns-in-Levels-side : goal.returns-in-Levels-side
returns-in-Levels-side c = search rules steps 1000000

pub returns-in-Directions-side : goal.returns-in-Directions-side
returns-in-Directions-side c = search rules steps 1000000
