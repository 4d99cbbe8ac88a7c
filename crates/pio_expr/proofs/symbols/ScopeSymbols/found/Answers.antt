use Rattle.std.proofs.Common.{rules}
use Rattle.pio_expr.proofs.symbols.ScopeSymbols.found.Goals as goal

-- as the search finds it: a refused body is told at once
pub returns-in-Some : goal.returns-in-Some
returns-in-Some c = search rules

pub returns-in-None : goal.returns-in-None
returns-in-None c = search rules
