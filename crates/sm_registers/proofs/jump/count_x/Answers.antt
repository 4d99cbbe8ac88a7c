use Rattle.std.proofs.Common.{rules}
use Rattle.sm_registers.specs.Effects.{jmp_effect}
use Rattle.sm_registers.proofs.jump.count_x.Goals as goal

-- as the search finds it; a wrong body is refused at once
pub returns : goal.returns
unfolding jmp_effect
returns c = search rules steps 300000
