use Rattle.std.proofs.Common.{rules}
use Rattle.block_core.proofs.sample.Sample.show_pins.Goals as goal

-- as the search finds it; a wrong body is refused at once
pub returns-clause-after : goal.returns-clause-after
returns-clause-after c = search rules steps 300000

pub returns-clause-same : goal.returns-clause-same
returns-clause-same c = search rules steps 300000
