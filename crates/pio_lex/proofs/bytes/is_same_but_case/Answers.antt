use Rattle.std.proofs.Common.{rules}
use Rattle.pio_lex.proofs.bytes.is_same_but_case.Goals as goal

-- as the search finds it: a refused body is told at once
pub returns : goal.returns
returns c = search rules
