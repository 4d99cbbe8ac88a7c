use Rattle.std.proofs.Common.{rules}
use Rattle.block_core.specs.Shown.{with_shown}
use Rattle.block_core.proofs.sample.Sample.show.Goals as goal

-- as the search finds it; a wrong body is refused at once
pub returns : goal.returns
unfolding with_shown
returns c = search rules steps 300000
