use Rattle.std.proofs.Common.{rules}
use Rattle.pio_assemble.proofs.instruction.delay_in.Goals as goal

-- as the search finds it; a wrong body is refused at once
pub returns-clause-value : goal.returns-clause-value
returns-clause-value c = search rules

pub returns-clause-within : goal.returns-clause-within
returns-clause-within c = search rules
