use Rattle.std.proofs.Common.{rules}
use Rattle.sm_registers.specs.Effects.{irq_effect}
use Rattle.sm_registers.proofs.waiting.irq_effect.Goals as goal

-- as the search finds it; a wrong body is refused at once
pub returns-then-not-waits : goal.returns-then-not-waits
unfolding irq_effect
returns-then-not-waits c = search rules steps 300000
