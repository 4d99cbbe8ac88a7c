use Rattle.std.proofs.Common.{rules}
use Rattle.sm_registers.specs.Effects.{in_effect}
use Rattle.sm_registers.proofs.shifting.in_effect.Goals as goal

-- as the search finds it; a wrong body is refused at once
pub returns : goal.returns
unfolding in_effect
returns g c = search rules steps 300000
