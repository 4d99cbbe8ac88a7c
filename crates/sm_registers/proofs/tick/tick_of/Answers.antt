use Rattle.std.proofs.Common.{rules}
use Rattle.sm_registers.specs.Tick.{tick_of, tick_delay}
use Rattle.sm_registers.proofs.tick.tick_of.Goals as goal

-- as the search finds it; a wrong body is refused at once
pub returns-then-registers-gt0-clause-registers : goal.returns-then-registers-gt0-clause-registers
unfolding tick_of tick_delay
returns-then-registers-gt0-clause-registers g c = search rules steps 300000

pub returns-then-registers-gt0-clause-intent : goal.returns-then-registers-gt0-clause-intent
unfolding tick_of tick_delay
returns-then-registers-gt0-clause-intent g c = search rules steps 300000
